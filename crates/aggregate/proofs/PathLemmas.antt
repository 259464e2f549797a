-- Values of paths: what a field and an array hold, and that what is made nests no deeper.
use Rattle.std.proofs.Common.{◌≡◌, ℕ, zero, suc, ◌+◌, ◌-◌, ◌<◌, ◌≤◌, max, Bool, true, false, List, [], ◌∷◌, length, take, drop, get_or, Option, Some, None}
use Rattle.std.proofs.Common.{Result, Ok, Err, refl, sym, ap, subst, ◌∙◌, arith}
use Rattle.std.specs.Prelude.{if◌then◌else◌}
use Rattle.std.specs.Option.{option_and_then}
use Rattle.std.specs.Result.{IfOk}
use Rattle.std.specs.Str.{bytes_eq}
use Rattle.std.proofs.lemmas.List.{drop_all, take_all}
use Rattle.bson.specs.Tree.{Tree, scalar, document, array, Pairs, no_pairs, pair, Items, no_items, item, count, count_pairs, count_items, append_items}
use Rattle.bson.specs.Lawful.{levels, pairs_levels, items_levels, IsTree, IsPairs, IsItems, IsArray}
use Rattle.bson.specs.Lookup.{lookup}
use Rattle.bson.specs.View.{tree, items_of}
use Rattle.bson.specs.EditPlaces.{append_items-none, append_items-one}
use Rattle.bson.specs.declared.value.Value.{Value}
use Rattle.projection.specs.Projection.{add_item}
use Rattle.aggregate_model.specs.PathValue.{by_field, each_by_field, path_value}
use Rattle.pipelines.proofs.ReadingLemmas.{drop_step}

-- ---- what a field and an array hold

pub count-lookup : (ps : Pairs) (name : List ℕ) (t : Tree) → lookup ps name ≡ Some t → count t ≤ count_pairs ps
count-lookup no_pairs name t e = absurd cc
count-lookup (pair other u ps) name t e = by (bytes_eq name other) e (count-lookup ps name t)
  where
    by : (b : Bool) → (if b then Some u else lookup ps name) ≡ Some t → (lookup ps name ≡ Some t → count t ≤ count_pairs ps)
        → count t ≤ count u + count_pairs ps
    by true e later = let same : u ≡ t = cc in omega (arith, ap count same)
    by false e later = omega (arith, later e)

pub item_count : (vs : List Value) (i : ℕ) (v : Value) → i < length vs → v ≡ get_or vs i v → count (tree v) ≤ count_items (items_of vs)
item_count [] i v lt is = absurd (omega arith)
item_count (w ∷ ws) zero v lt is = omega (arith, ap (λ (x : Value). count (tree x)) is)
item_count (w ∷ ws) (suc i) v lt is = omega (arith, item_count ws i v (omega arith) is)

pub if_ok_map : {A E : Type 0} (r : Result A E) (P Q : A → Type 0) → ((a : A) → P a → Q a) → IfOk r P → IfOk r Q
if_ok_map (Ok a) P Q f h = f a h
if_ok_map (Err e) P Q f h = h

abbrev pub Kept : Tree → Tree → Type 0
Kept t u = IsTree u × (levels u ≤ levels t)

kept-lookup : (ps : Pairs) (name : List ℕ) (t : Tree) → IsPairs ps → lookup ps name ≡ Some t → IsTree t × (levels t ≤ pairs_levels ps)
kept-lookup no_pairs name t h e = absurd cc
kept-lookup (pair other u ps) name t h e = by (bytes_eq name other) e (kept-lookup ps name t h.3)
  where
    by : (b : Bool) → (if b then Some u else lookup ps name) ≡ Some t → (lookup ps name ≡ Some t → IsTree t × (levels t ≤ pairs_levels ps))
        → IsTree t × (levels t ≤ max (levels u) (pairs_levels ps))
    by true e later = let same : u ≡ t = cc in (subst IsTree same h.1, omega (arith, ap levels same))
    by false e later = let rest = later e in (rest.0, omega (arith, rest.1))

-- ---- what is made nests no deeper

added : (t : Tree) (ts us : Items) (o : Option Tree) → ((u : Tree) → o ≡ Some u → Kept t u)
    → IsItems us × (items_levels us ≤ items_levels ts) → IsItems (add_item o us) × (items_levels (add_item o us) ≤ max (levels t) (items_levels ts))
added t ts us None kept rest = (rest.0, omega (arith, rest.1))
added t ts us (Some u) kept rest = let k = kept u refl in ((k.0, rest.0), omega (arith, k.1, rest.1))

module _ (go : Tree → Option Tree) (name : List ℕ) (keeps : (t u : Tree) → IsTree t → go t ≡ Some u → Kept t u) where
  mutual
    by_field-kept : (t u : Tree) → IsTree t → by_field go name t ≡ Some u → Kept t u
    by_field-kept (scalar s) u h e = absurd cc
    by_field-kept (document ps) u h e = by (lookup ps name) refl e
      where
        by : (o : Option Tree) → lookup ps name ≡ o → option_and_then go o ≡ Some u → Kept (document ps) u
        by None is e = absurd cc
        by (Some t) is e =
            let inner = kept-lookup ps name t h is in
            let k = keeps t u inner.0 e in
            (k.0, omega (arith, inner.1, k.1))
    by_field-kept (array ts) u h e =
        let same : array (each_by_field go name ts) ≡ u = cc in
        let inner = each-kept ts h in
        (subst IsTree same inner.0, omega (arith, ap levels same, inner.1))

    each-kept : (ts : Items) → IsItems ts → IsItems (each_by_field go name ts) × (items_levels (each_by_field go name ts) ≤ items_levels ts)
    each-kept no_items h = (tt, omega arith)
    each-kept (item t ts) h = added t ts (each_by_field go name ts) (by_field go name t) (λ u e. by_field-kept t u h.0 e) (each-kept ts h.1)

  pub IsArray-each : (ts : Items) → IsArray ts → IsArray (each_by_field go name ts)
  IsArray-each ts h =
      let k = each-kept ts h.lawful in
      record { lawful = k.0; depth = omega (arith, h.depth, k.1) }

  pub by_field-keeps : (t u : Tree) → IsTree t → by_field go name t ≡ Some u → Kept t u
  by_field-keeps = by_field-kept

pub path_value-kept : (parts : List (List ℕ)) (t u : Tree) → IsTree t → path_value parts t ≡ Some u → Kept t u
path_value-kept [] t u h e = let same : t ≡ u = cc in (subst IsTree same h, omega (arith, ap levels same))
path_value-kept (name ∷ rest) t u h e = by_field-keeps (path_value rest) name (path_value-kept rest) t u h e

-- ---- one item more

item_added : (ts us : Items) (o : Option Tree) → append_items (append_items ts (add_item o no_items)) us ≡ append_items ts (add_item o us)
item_added ts us None = ap (λ (vs : Items). append_items vs us) (append_items-none ts)
item_added ts us (Some t) = append_items-one ts t us

module _ (go : Tree → Option Tree) (name : List ℕ) where
  pub items_more : (vs : List Value) (i : ℕ) (v : Value) (o : Option Tree) (out next whole : Items) → i < length vs → v ≡ get_or vs i v
      → o ≡ by_field go name (tree v) → next ≡ append_items out (add_item o no_items)
      → append_items out (each_by_field go name (items_of (drop i vs))) ≡ whole → append_items next (each_by_field go name (items_of (drop (i + 1) vs))) ≡ whole
  items_more vs i v o out next whole lt is found grown so_far =
      let rest : Items = each_by_field go name (items_of (drop (i + 1) vs)) in
      ap (λ (us : Items). append_items us rest) grown
      ∙ item_added out rest o
      ∙ ap (λ (p : Option Tree). append_items out (add_item p rest)) found
      ∙ sym (ap (λ (ws : List Value). append_items out (each_by_field go name (items_of ws))) (drop_step vs i v lt is))
      ∙ so_far

  pub items_end : (vs : List Value) (i : ℕ) (out whole : Items) → length vs ≤ i → append_items out (each_by_field go name (items_of (drop i vs))) ≡ whole
      → out ≡ whole
  items_end vs i out whole le so_far =
      sym (append_items-none out) ∙ sym (ap (λ (ws : List Value). append_items out (each_by_field go name (items_of ws))) (drop_all i vs le)) ∙ so_far

-- ---- a path of one part or more

pub path_value_step : (parts : List (List ℕ)) (name : List ℕ) (t : Tree) → 1 ≤ length parts → name ≡ get_or parts 0 name
    → path_value parts t ≡ by_field (path_value (take (length parts - 1) (drop 1 parts))) name t
path_value_step [] name t le is = absurd (omega (arith, le))
path_value_step (first ∷ rest) name t le is =
    let all : take (suc (length rest) - 1) rest ≡ rest = take_all (suc (length rest) - 1) rest (omega arith) in
    (λ i. by_field (path_value (sym all i)) (sym is i) t)
