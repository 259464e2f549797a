-- What a projection leaves is a document, and one pair or one item more of it.
use Rattle.std.proofs.Common.{◌≡◌, ℕ, ◌+◌, ◌<◌, ◌≤◌, max, Bool, true, false, List, length, drop, get_or, Option, Some, None, refl, sym, ap, subst, ◌∙◌, arith}
use Rattle.std.proofs.Common.{inl, inr}
use Rattle.std.specs.Prelude.{◌⊎◌, not, if◌then◌else◌, option_map}
use Rattle.std.specs.List.{list_any}
use Rattle.bson.specs.Tree.{Tree, scalar, document, array, Pairs, no_pairs, pair, append, Items, no_items, item, append_items}
use Rattle.bson.specs.View.{tree, pairs_of, items_of}
use Rattle.bson.specs.Lawful.{levels, pairs_levels, items_levels, Lacks, IsTree, IsPairs, IsItems, IsDocument, IsArray}
use Rattle.bson.specs.EditPlaces.{append-none, append-one, append_items-none, append_items-one}
use Rattle.bson.specs.declared.value.Pair.{Pair}
use Rattle.bson.specs.declared.value.Value.{Value}
use Rattle.projection.specs.Projection.{Path, below, is_end, is_none, only, pick, add_pair, add_item, of_tree, of_pairs, of_items}
use Rattle.std.proofs.lemmas.List.{drop_all}
use Rattle.filter.proofs.ParsingLemmas.{drop_step}

-- ---- what is left is lawful and nests no deeper

only-some : (b : Bool) (t u : Tree) → only b t ≡ Some u → t ≡ u
only-some true t u e = cc
only-some false t u e = absurd cc

pick-some : (includes : Bool) (paths : List Path) (whole : Tree) (part : Option Tree) (u : Tree) → pick includes paths whole part ≡ Some u
    → (whole ≡ u) ⊎ (part ≡ Some u)
pick-some includes paths whole part u e = by (is_none paths) (list_any is_end paths) e
  where
    by : (a b : Bool) → (if a then only (not includes) whole else if b then only includes whole else part) ≡ Some u → (whole ≡ u) ⊎ (part ≡ Some u)
    by true b e = inl (only-some (not includes) whole u e)
    by false true e = inl (only-some includes whole u e)
    by false false e = inr e

added : (name : List ℕ) (t : Tree) (ps : Pairs) → IsPairs (pair name t ps) → (qs : Pairs) (o : Option Tree)
    → ((u : Tree) → o ≡ Some u → IsTree u × (levels u ≤ levels t))
    → IsPairs qs × (pairs_levels qs ≤ pairs_levels ps) → Lacks qs name
    → IsPairs (add_pair name o qs) × (pairs_levels (add_pair name o qs) ≤ max (levels t) (pairs_levels ps))
added name t ps h qs None kept rest lacks = (rest.0, omega (arith, rest.1))
added name t ps h qs (Some u) kept rest lacks = let k = kept u refl in ((h.0, k.0, lacks, rest.0), omega (arith, k.1, rest.1))

put : (t : Tree) (ts us : Items) (o : Option Tree) → ((u : Tree) → o ≡ Some u → IsTree u × (levels u ≤ levels t))
    → IsItems us × (items_levels us ≤ items_levels ts) → IsItems (add_item o us) × (items_levels (add_item o us) ≤ max (levels t) (items_levels ts))
put t ts us None kept rest = (rest.0, omega (arith, rest.1))
put t ts us (Some u) kept rest = let k = kept u refl in ((k.0, rest.0), omega (arith, k.1, rest.1))

module _ (includes : Bool) where
  Lacks-of : (paths : List Path) (ps : Pairs) (name : List ℕ) → Lacks ps name → Lacks (of_pairs includes paths ps) name
  Lacks-of paths no_pairs name h = tt
  Lacks-of paths (pair other t ps) name h = by (of_tree includes (below other paths) t) (Lacks-of paths ps name h.1)
    where
      by : (o : Option Tree) → Lacks (of_pairs includes paths ps) name → Lacks (add_pair other o (of_pairs includes paths ps)) name
      by None later = later
      by (Some u) later = (h.0, later)

  mutual
    pub of_tree-kept : (paths : List Path) (t u : Tree) → IsTree t → of_tree includes paths t ≡ Some u → IsTree u × (levels u ≤ levels t)
    of_tree-kept paths (scalar s) u h e = elim (pick-some includes paths (scalar s) (only (not includes) (scalar s)) u e) [
      | inl same ↦ (subst IsTree same h, omega (arith, ap levels same))
      | inr part ↦ let same = only-some (not includes) (scalar s) u part in (subst IsTree same h, omega (arith, ap levels same))
    ]
    of_tree-kept paths (document ps) u h e = elim (pick-some includes paths (document ps) (Some (document (of_pairs includes paths ps))) u e) [
      | inl same ↦ (subst IsTree same h, omega (arith, ap levels same))
      | inr part ↦
          let same : document (of_pairs includes paths ps) ≡ u = cc in
          let inner = of_pairs-kept paths ps h in
          (subst IsTree same inner.0, omega (arith, ap levels same, inner.1))
    ]
    of_tree-kept paths (array ts) u h e = elim (pick-some includes paths (array ts) (Some (array (of_items includes paths ts))) u e) [
      | inl same ↦ (subst IsTree same h, omega (arith, ap levels same))
      | inr part ↦
          let same : array (of_items includes paths ts) ≡ u = cc in
          let inner = of_items-kept paths ts h in
          (subst IsTree same inner.0, omega (arith, ap levels same, inner.1))
    ]

    pub of_pairs-kept : (paths : List Path) (ps : Pairs) → IsPairs ps
        → IsPairs (of_pairs includes paths ps) × (pairs_levels (of_pairs includes paths ps) ≤ pairs_levels ps)
    of_pairs-kept paths no_pairs h = (tt, omega arith)
    of_pairs-kept paths (pair name t ps) h =
        added name t ps h (of_pairs includes paths ps) (of_tree includes (below name paths) t) (λ u e. of_tree-kept (below name paths) t u h.1 e)
        (of_pairs-kept paths ps h.3) (Lacks-of paths ps name h.2)

    pub of_items-kept : (paths : List Path) (ts : Items) → IsItems ts
        → IsItems (of_items includes paths ts) × (items_levels (of_items includes paths ts) ≤ items_levels ts)
    of_items-kept paths no_items h = (tt, omega arith)
    of_items-kept paths (item t ts) h =
        put t ts (of_items includes paths ts) (of_tree includes paths t) (λ u e. of_tree-kept paths t u h.0 e) (of_items-kept paths ts h.1)

pub IsDocument-of : (includes : Bool) (paths : List Path) (ps : Pairs) → IsDocument ps → IsDocument (of_pairs includes paths ps)
IsDocument-of includes paths ps h =
    let kept = of_pairs-kept includes paths ps h.lawful in
    record { lawful = kept.0; depth = omega (arith, h.depth, kept.1) }

pub IsArray-of : (includes : Bool) (paths : List Path) (ts : Items) → IsArray ts → IsArray (of_items includes paths ts)
IsArray-of includes paths ts h =
    let kept = of_items-kept includes paths ts h.lawful in
    record { lawful = kept.0; depth = omega (arith, h.depth, kept.1) }

-- ---- one more

pair_added : (ps qs : Pairs) (name : List ℕ) (o : Option Tree) → append (append ps (add_pair name o no_pairs)) qs ≡ append ps (add_pair name o qs)
pair_added ps qs name None = ap (λ (rs : Pairs). append rs qs) (append-none ps)
pair_added ps qs name (Some t) = append-one ps name t qs

item_added : (ts us : Items) (o : Option Tree) → append_items (append_items ts (add_item o no_items)) us ≡ append_items ts (add_item o us)
item_added ts us None = ap (λ (vs : Items). append_items vs us) (append_items-none ts)
item_added ts us (Some t) = append_items-one ts t us

pub pairs_more : (includes : Bool) (paths inner : List Path) (ps : List Pair) (i : ℕ) (p : Pair) (name : List ℕ) (value : Option Value)
    (out next whole : Pairs) → i < length ps → p ≡ get_or ps i p → name ≡ p.name
    → inner ≡ below name paths → option_map tree value ≡ of_tree includes inner (tree p.value)
    → next ≡ append out (add_pair p.name (option_map tree value) no_pairs)
    → append out (of_pairs includes paths (pairs_of (drop i ps))) ≡ whole → append next (of_pairs includes paths (pairs_of (drop (i + 1) ps))) ≡ whole
pairs_more includes paths inner ps i p name value out next whole lt is named inside left grown so_far =
    let rest = of_pairs includes paths (pairs_of (drop (i + 1) ps)) in
    ap (λ (qs : Pairs). append qs rest) grown
    ∙ pair_added out rest p.name (option_map tree value)
    ∙ ap (λ (o : Option Tree). append out (add_pair p.name o rest))
    (left ∙ (λ j. of_tree includes ((inside ∙ ap (λ (n : List ℕ). below n paths) named) j) (tree p.value)))
    ∙ sym (ap (λ (qs : List Pair). append out (of_pairs includes paths (pairs_of qs))) (drop_step ps i p lt is))
    ∙ so_far

pub items_more : (includes : Bool) (paths : List Path) (vs : List Value) (i : ℕ) (v : Value) (value : Option Value) (out next whole : Items) → i < length vs
    → v ≡ get_or vs i v
    → option_map tree value ≡ of_tree includes paths (tree v) → next ≡ append_items out (add_item (option_map tree value) no_items)
    → append_items out (of_items includes paths (items_of (drop i vs))) ≡ whole
    → append_items next (of_items includes paths (items_of (drop (i + 1) vs))) ≡ whole
items_more includes paths vs i v value out next whole lt is left grown so_far =
    let rest = of_items includes paths (items_of (drop (i + 1) vs)) in
    ap (λ (us : Items). append_items us rest) grown
    ∙ item_added out rest (option_map tree value)
    ∙ ap (λ (o : Option Tree). append_items out (add_item o rest)) left
    ∙ sym (ap (λ (ws : List Value). append_items out (of_items includes paths (items_of ws))) (drop_step vs i v lt is))
    ∙ so_far

pub pairs_end : (includes : Bool) (paths : List Path) (ps : List Pair) (i : ℕ) (out whole : Pairs) → length ps ≤ i
    → append out (of_pairs includes paths (pairs_of (drop i ps))) ≡ whole → out ≡ whole
pairs_end includes paths ps i out whole le so_far =
    sym (append-none out) ∙ sym (ap (λ (qs : List Pair). append out (of_pairs includes paths (pairs_of qs))) (drop_all i ps le)) ∙ so_far

pub items_end : (includes : Bool) (paths : List Path) (vs : List Value) (i : ℕ) (out whole : Items) → length vs ≤ i
    → append_items out (of_items includes paths (items_of (drop i vs))) ≡ whole → out ≡ whole
items_end includes paths vs i out whole le so_far =
    sym (append_items-none out) ∙ sym (ap (λ (ws : List Value). append_items out (of_items includes paths (items_of ws))) (drop_all i vs le)) ∙ so_far
