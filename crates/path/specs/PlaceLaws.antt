-- What an edit does to the places that paths name: what was written stands at its path and is among
-- what the path reaches, and a place that the edit's path neither leads to nor comes from is as it
-- was.
use Rattle.std.proofs.Math.Dec.{leb}
use Rattle.std.specs.Prelude.{◌≡◌, ◌≢◌, ℕ, zero, suc, ◌<◌, ◌≤◌, ◌==◌, ◌&&◌, ◌||◌, Bool, true, false}
use Rattle.std.specs.Prelude.{if◌then◌else◌, Option, Some, None, Result, Ok, List, [], ◌∷◌, ◌⊎◌}
use Rattle.std.specs.Prelude.{refl}
use Rattle.std.proofs.Common.{sym, ap, subst, ◌∙◌, inl, inr, arith}
use Rattle.std.specs.Option.{option_and_then, unwrap_or}
use Rattle.std.specs.List.{Contains}
use Rattle.std.specs.Str.{bytes_eq}
use Rattle.std.proofs.lemmas.Slice.Eq.{bytes_eq-Decides}
use Rattle.std.proofs.lemmas.Bool.{eqb-true, eqb-false}
use Rattle.std.proofs.lemmas.Bool.Decides.{leb_tells}
use Rattle.std.proofs.lemmas.List.Elements.{Contains-append_right}
use Rattle.bson.specs.Tree.{Tree, scalar, null, document, array, Pairs, no_pairs, pair, Items}
use Rattle.bson.specs.Tree.{no_items, item}
use Rattle.bson.specs.Lookup.{lookup}
use Rattle.bson.specs.Edits.{put, items_len, item_at, with_item}
use Rattle.bson.specs.EditPlaces.{item_at-with_item}
use Rattle.bson.specs.EditsLaws.{lookup-put_other, lookup-put, lookup-cut_other}
use Rattle.bson.specs.EditPlaces.{item_at-with_item_other}
use Rattle.path.specs.declared.refusal.Refusal.{Refusal}
use Rattle.path.specs.Parts.{index_of, is_empty, is_front, meets}
use Rattle.path.specs.Place.{value_at}
use Rattle.path.specs.Reach.{Reached, reach, onwards, in_elements, in_place}
use Rattle.path.specs.Edits.{if_ok, write, write_at, put_or_cut, cut_found, cut_field, with_found}
use Rattle.path.specs.Edits.{cut_item, cut_off, cut_at}
use Rattle.path.specs.Laws.{WritesField, WritesItem, WritesItemAt, Writes, Made}
use Rattle.path.specs.EditLaws.{writes}
use Rattle.path.specs.IndexLaws.{one_index}

-- ---- statements

-- the parts of a path that was read aren't empty
abbrev pub HasNames : List (List ℕ) → Type 0
HasNames [] = Unit {0}
HasNames (name ∷ rest) = (is_empty name ≡ false) × HasNames rest

-- what was there is there; where nothing was, there is nothing or a null before an element past the
-- end
abbrev pub Kept : Option Tree → Option Tree → Type 0
Kept None now = (now ≡ None) ⊎ (now ≡ Some (scalar null))
Kept (Some t) now = now ≡ Some t

pub record StandsAfter (made : Option Tree → Result Tree Refusal) (path : List (List ℕ))
    (ps qs : Pairs) : Type 0 where
  pub value : Tree
  pub was_made : made (value_at path (document ps)) ≡ Ok value
  pub stands : value_at path (document qs) ≡ Some value
  pub reached : Contains (reach path (document qs)) (Some value)

abbrev pub WriteStands : Type 0
WriteStands =
    (made : Option Tree → Result Tree Refusal) (name : List ℕ) (rest : List (List ℕ))
    (ps qs : Pairs)
    → write_at made (name ∷ rest) ps ≡ Ok qs → StandsAfter made (name ∷ rest) ps qs

abbrev pub WriteKeepsOthers : Type 0
WriteKeepsOthers =
    (made : Option Tree → Result Tree Refusal) (name : List ℕ) (rest other : List (List ℕ))
    (ps qs : Pairs)
    → HasNames (name ∷ rest) → HasNames other → meets (name ∷ rest) other ≡ false
    → write_at made (name ∷ rest) ps ≡ Ok qs
    → Kept (value_at other (document ps)) (value_at other (document qs))

abbrev pub CutKeepsOthers : Type 0
CutKeepsOthers =
    (name : List ℕ) (rest other : List (List ℕ)) (ps : Pairs) → HasNames (name ∷ rest)
    → HasNames other → meets (name ∷ rest) other ≡ false
    → value_at other (document (cut_at (name ∷ rest) ps)) ≡ value_at other (document ps)

-- ---- paths that don't meet

or_none : (a b : Bool) → (a || b) ≡ false → (a ≡ false) × (b ≡ false)
or_none true b e = absurd cc
or_none false b e = (refl, e)

meets_below : (name other : List ℕ) (rest more : List (List ℕ)) → bytes_eq name other ≡ true
    → meets (name ∷ rest) (other ∷ more) ≡ false → meets rest more ≡ false
meets_below name other rest more e m =
    let same : name ≡ other = (bytes_eq-Decides name other).0 e in
    let too : bytes_eq other name ≡ true = (bytes_eq-Decides other name).1 (sym same) in
    sym (λ i. (e i && is_front rest more) || (too i && is_front more rest)) ∙ m

bytes_differ : (xs ys : List ℕ) → bytes_eq xs ys ≡ false → xs ≢ ys
bytes_differ xs ys e same = let f = (bytes_eq-Decides xs ys).1 same in absurd cc

kept-same : (o : Option Tree) → Kept o o
kept-same None = inl refl
kept-same (Some t) = refl

item_at-past : (ts : Items) (i : ℕ) → items_len ts ≤ i → item_at ts i ≡ None
item_at-past no_items i le = refl
item_at-past (item t ts) zero le = absurd (omega arith)
item_at-past (item t ts) (suc i) le = item_at-past ts i (omega arith)

item_at-len : (ts : Items) (i : ℕ) (t : Tree) → item_at ts i ≡ Some t → i < items_len ts
item_at-len no_items i t e = absurd cc
item_at-len (item u ts) zero t e = omega arith
item_at-len (item u ts) (suc i) t e = omega (arith, item_at-len ts i t e)

of_null : (more : List (List ℕ)) → Kept None (value_at more (scalar null))
of_null [] = inr refl
of_null (name ∷ rest) = inl refl

index : ℕ → Option ℕ
index n = Some n

-- ---- a write

module _ (End : Option Tree → Tree → Type 0) where
  -- what is kept below two parts that are one
  Below : List (List ℕ) → List (List ℕ) → Type 0
  Below rest more = (old : Option Tree) (now : Tree) → meets rest more ≡ false
      → Writes End rest old now → Kept (option_and_then (value_at more) old) (value_at more now)

  field_kept : (name other : List ℕ) (rest more : List (List ℕ)) (ps qs : Pairs)
      → meets (name ∷ rest) (other ∷ more) ≡ false → WritesField (Writes End rest) name ps qs
      → Below rest more
      → Kept (option_and_then (value_at more) (lookup ps other))
      (option_and_then (value_at more) (lookup qs other))
  unfolding Below
  field_kept name other rest more ps qs m w below = by (bytes_eq name other) refl
    where
      by : (b : Bool) → bytes_eq name other ≡ b
          → Kept (option_and_then (value_at more) (lookup ps other))
          (option_and_then (value_at more) (lookup qs other))
      by true e =
          let same : name ≡ other = (bytes_eq-Decides name other).0 e in
          subst (λ (n : List ℕ). Kept (option_and_then (value_at more) (lookup ps n))
          (option_and_then (value_at more) (lookup qs n))) same
          (subst (λ (o : Option Tree). Kept (option_and_then (value_at more) (lookup ps name))
          (option_and_then (value_at more) o)) (sym w.written)
          (below (lookup ps name) w.value (meets_below name other rest more e m) w.below))
      by false e =
          let stays = w.others other (λ same. bytes_differ name other e (sym same)) in
          subst (λ (o : Option Tree). Kept (option_and_then (value_at more) (lookup ps other))
          (option_and_then (value_at more) o)) (sym stays)
          (kept-same (option_and_then (value_at more) (lookup ps other)))

  item_kept : (name other : List ℕ) (rest more : List (List ℕ)) (ts us : Items) (i : ℕ)
      → is_empty name ≡ false → is_empty other ≡ false → meets (name ∷ rest) (other ∷ more) ≡ false
      → index_of name ≡ Some i → WritesItem (Writes End rest) i ts us → Below rest more
      → (o : Option ℕ) → index_of other ≡ o
      → Kept (option_and_then (value_at more) (option_and_then (item_at ts) o))
      (option_and_then (value_at more) (option_and_then (item_at us) o))
  unfolding Below index
  item_kept name other rest more ts us i en eo m at w below None p = inl refl
  item_kept name other rest more ts us i en eo m at w below (Some j) p =
      by (j == i) refl (leb_tells (items_len ts) j)
    where
      beyond : j ≢ i → items_len ts ≤ j → (o : Option Tree) → item_at us j ≡ o
          → Kept None (option_and_then (value_at more) o)
      beyond ne le None e = inl refl
      beyond ne le (Some t) e =
          let inside : j < items_len us = item_at-len us j t e in
          let lt : j < i = omega (arith, w.len) in
          let same : Some t ≡ Some (scalar null) = sym e ∙ w.nulls j le lt in
          subst (λ (o : Option Tree). Kept None (option_and_then (value_at more) o)) (sym same)
          (of_null more)

      apart : j ≢ i
          → ((leb (items_len ts) j ≡ true) × (items_len ts ≤ j))
          ⊎ ((leb (items_len ts) j ≡ false) × (j < items_len ts))
          → Kept (option_and_then (value_at more) (item_at ts j))
          (option_and_then (value_at more) (item_at us j))
      apart ne (inl past) =
          subst (λ (o : Option Tree). Kept (option_and_then (value_at more) o)
          (option_and_then (value_at more) (item_at us j))) (sym (item_at-past ts j past.1))
          (beyond ne past.1 (item_at us j) refl)
      apart ne (inr within) =
          subst (λ (o : Option Tree). Kept (option_and_then (value_at more) (item_at ts j))
          (option_and_then (value_at more) o)) (sym (w.others j ne within.1))
          (kept-same (option_and_then (value_at more) (item_at ts j)))

      by : (b : Bool) → (j == i) ≡ b
          → ((leb (items_len ts) j ≡ true) × (items_len ts ≤ j))
          ⊎ ((leb (items_len ts) j ≡ false) × (j < items_len ts))
          → Kept (option_and_then (value_at more) (item_at ts j))
          (option_and_then (value_at more) (item_at us j))
      by true e tells =
          let here : j ≡ i = eqb-true j i e in
          let same : name ≡ other =
          one_index name other i en eo at (p ∙ ap (λ (k : ℕ). index k) here) in
          let equal : bytes_eq name other ≡ true = (bytes_eq-Decides name other).1 same in
          subst (λ (k : ℕ). Kept (option_and_then (value_at more) (item_at ts k))
          (option_and_then (value_at more) (item_at us k))) (sym here)
          (subst (λ (o : Option Tree). Kept (option_and_then (value_at more) (item_at ts i))
          (option_and_then (value_at more) o)) (sym w.written)
          (below (item_at ts i) w.value (meets_below name other rest more equal m) w.below))
      by false e tells = apart (eqb-false j i e) tells

  pub others_kept : (path other : List (List ℕ)) (old : Option Tree) (now : Tree) → HasNames path
      → HasNames other → meets path other ≡ false → Writes End path old now
      → Kept (option_and_then (value_at other) old) (value_at other now)
  unfolding Below
  others_kept [] other old now h k m w = absurd cc
  others_kept (name ∷ rest) [] old now h k m w = absurd cc
  others_kept (name ∷ rest) (part ∷ more) None (scalar s) h k m w = absurd w
  others_kept (name ∷ rest) (part ∷ more) None (array us) h k m w = absurd w
  others_kept (name ∷ rest) (part ∷ more) None (document qs) h k m w =
      field_kept name part rest more no_pairs qs m w
      (λ o n d v. others_kept rest more o n h.1 k.1 d v)
  others_kept (name ∷ rest) (part ∷ more) (Some (scalar s)) now h k m w = absurd w
  others_kept (name ∷ rest) (part ∷ more) (Some (document ps)) (scalar s) h k m w = absurd w
  others_kept (name ∷ rest) (part ∷ more) (Some (document ps)) (array us) h k m w = absurd w
  others_kept (name ∷ rest) (part ∷ more) (Some (document ps)) (document qs) h k m w =
      field_kept name part rest more ps qs m w (λ o n d v. others_kept rest more o n h.1 k.1 d v)
  others_kept (name ∷ rest) (part ∷ more) (Some (array ts)) (scalar s) h k m w = absurd w
  others_kept (name ∷ rest) (part ∷ more) (Some (array ts)) (document qs) h k m w = absurd w
  others_kept (name ∷ rest) (part ∷ more) (Some (array ts)) (array us) h k m w =
      by (index_of name) refl w (λ o n d x. others_kept rest more o n h.1 k.1 d x)
    where
      by : (o : Option ℕ) → index_of name ≡ o → WritesItemAt (Writes End rest) o ts us
          → Below rest more
          → Kept (option_and_then (value_at more) (option_and_then (item_at ts) (index_of part)))
          (option_and_then (value_at more) (option_and_then (item_at us) (index_of part)))
      by None e v below = absurd v
      by (Some i) e v below =
          item_kept name part rest more ts us i h.0 k.0 m e v below (index_of part) refl

  -- what stands at the path's end, and is reached
  pub record Stands (path : List (List ℕ)) (old : Option Tree) (now : Tree) : Type 0 where
    pub value : Tree
    pub made : End (option_and_then (value_at path) old) value
    pub stands : value_at path now ≡ Some value
    pub reached : Contains (reach path now) (Some value)

  first_of : (x : Reached) → Contains (x ∷ []) x
  first_of x = (0, omega arith, refl)

  pub written : (path : List (List ℕ)) (old : Option Tree) (now : Tree) → Writes End path old now
      → Stands path old now
  unfolding first_of
  written [] None now w = record
      { value = now; made = w; stands = refl; reached = first_of (Some now) }
  written [] (Some t) now w = record
      { value = now; made = w; stands = refl; reached = first_of (Some now) }
  written (name ∷ rest) None (scalar s) w = absurd w
  written (name ∷ rest) None (array us) w = absurd w
  written (name ∷ rest) None (document qs) w =
      let below = written rest None w.value w.below in
      record {
        value = below.value;
        made = below.made;
        stands = ap (option_and_then (value_at rest)) w.written ∙ below.stands;
        reached = subst
            (λ (o : Option Tree). Contains (onwards (reach rest) o (None ∷ [])) (Some below.value))
            (sym w.written) below.reached;
      }
  written (name ∷ rest) (Some (scalar s)) now w = absurd w
  written (name ∷ rest) (Some (document ps)) (scalar s) w = absurd w
  written (name ∷ rest) (Some (document ps)) (array us) w = absurd w
  written (name ∷ rest) (Some (document ps)) (document qs) w =
      let below = written rest (lookup ps name) w.value w.below in
      record {
        value = below.value;
        made = below.made;
        stands = ap (option_and_then (value_at rest)) w.written ∙ below.stands;
        reached = subst
            (λ (o : Option Tree). Contains (onwards (reach rest) o (None ∷ [])) (Some below.value))
            (sym w.written) below.reached;
      }
  written (name ∷ rest) (Some (array ts)) (scalar s) w = absurd w
  written (name ∷ rest) (Some (array ts)) (document qs) w = absurd w
  written (name ∷ rest) (Some (array ts)) (array us) w =
      by (index_of name) refl w (λ o n x. written rest o n x)
    where
      numbered : (i : ℕ) → index_of name ≡ Some i → (v : WritesItem (Writes End rest) i ts us)
          → Stands rest (item_at ts i) v.value → Stands (name ∷ rest) (Some (array ts)) (array us)
      numbered i e v below =
          let place : option_and_then (item_at us) (index_of name) ≡ Some v.value =
          ap (option_and_then (item_at us)) e ∙ v.written in
          record {
            value = below.value;
            made = subst
                (λ (o : Option ℕ). End
                (option_and_then (value_at rest) (option_and_then (item_at ts) o)) below.value)
                (sym e) below.made;
            stands = ap (option_and_then (value_at rest)) place ∙ below.stands;
            reached = Contains-append_right (in_elements (reach rest) name us)
                (in_place (reach rest) name us) (Some below.value)
                (subst (λ (o : Option Tree). Contains (onwards (reach rest) o [])
                (Some below.value)) (sym place) below.reached);
          }

      by : (o : Option ℕ) → index_of name ≡ o → WritesItemAt (Writes End rest) o ts us
          → ((old : Option Tree) (now : Tree) → Writes End rest old now → Stands rest old now)
          → Stands (name ∷ rest) (Some (array ts)) (array us)
      by None e v below = absurd v
      by (Some i) e v below = numbered i e v (below (item_at ts i) v.value v.below)

as_value : (made : Option Tree → Result Tree Refusal) (name : List ℕ) (rest : List (List ℕ))
    (ps qs : Pairs) → write_at made (name ∷ rest) ps ≡ Ok qs
    → write made (name ∷ rest) (Some (document ps)) ≡ Ok (document qs)
as_value made name rest ps qs e =
    ap (λ (r : Result Pairs Refusal). if_ok r (λ (us : Pairs). Ok (document us))) e

pub write_stands : WriteStands
write_stands made name rest ps qs e =
    let w = written (Made made) (name ∷ rest) (Some (document ps)) (document qs)
    (writes made (name ∷ rest) (Some (document ps)) (document qs)
    (as_value made name rest ps qs e)) in
    record { value = w.value; was_made = w.made; stands = w.stands; reached = w.reached }

pub write_keeps_others : WriteKeepsOthers
write_keeps_others made name rest other ps qs h k m e =
    others_kept (Made made) (name ∷ rest) other (Some (document ps)) (document qs) h k m
    (writes made (name ∷ rest) (Some (document ps)) (document qs) (as_value made name rest ps qs e))

-- ---- a removal

some_same : {X : Type 0} {x y : X} → ◌≡◌ {A = Option X} (Some x) (Some y) → x ≡ y
some_same e = cc

-- nothing is left only at the path's end, which every path meets
none_left : (rest more : List (List ℕ)) (t : Tree) → cut_off rest t ≡ None
    → meets rest more ≡ false → ⊥
none_left [] more t e m = absurd cc
none_left (name ∷ rest) more (scalar s) e m = absurd cc
none_left (name ∷ rest) more (document ps) e m = absurd cc
none_left (name ∷ rest) more (array ts) e m = absurd cc

Same : List (List ℕ) → List (List ℕ) → Type 0
Same rest more = (t u : Tree) → meets rest more ≡ false → cut_off rest t ≡ Some u
    → value_at more u ≡ value_at more t

field_same : (name other : List ℕ) (rest more : List (List ℕ)) (ps : Pairs)
    → meets (name ∷ rest) (other ∷ more) ≡ false → Same rest more
    → option_and_then (value_at more) (lookup (cut_field (cut_off rest) name ps) other)
    ≡ option_and_then (value_at more) (lookup ps other)
unfolding Same
field_same name other rest more ps m below = found (lookup ps name) refl
  where
    away : bytes_eq name other ≡ false → (w : Option Tree)
        → lookup (put_or_cut name ps w) other ≡ lookup ps other
    away e None = lookup-cut_other ps name other (λ same. bytes_differ name other e (sym same))
    away e (Some u) =
        lookup-put_other ps name other u (λ same. bytes_differ name other e (sym same))

    here : name ≡ other → bytes_eq name other ≡ true → (t : Tree) → lookup ps name ≡ Some t
        → (w : Option Tree) → cut_off rest t ≡ w
        → option_and_then (value_at more) (lookup (put_or_cut name ps w) other)
        ≡ option_and_then (value_at more) (lookup ps other)
    here same b t at None e =
        absurd (none_left rest more t e (meets_below name other rest more b m))
    here same b t at (Some u) e =
        ap (λ (n : List ℕ). option_and_then (value_at more) (lookup (put ps name u) n)) (sym same)
        ∙ ap (option_and_then (value_at more)) (lookup-put ps name u)
        ∙ below t u (meets_below name other rest more b m) e
        ∙ sym (ap (option_and_then (value_at more)) (ap (lookup ps) (sym same) ∙ at))

    at_name : (t : Tree) → lookup ps name ≡ Some t → (b : Bool) → bytes_eq name other ≡ b
        → option_and_then (value_at more) (lookup (put_or_cut name ps (cut_off rest t)) other)
        ≡ option_and_then (value_at more) (lookup ps other)
    at_name t at true b = here ((bytes_eq-Decides name other).0 b) b t at (cut_off rest t) refl
    at_name t at false b = ap (option_and_then (value_at more)) (away b (cut_off rest t))

    found : (o : Option Tree) → lookup ps name ≡ o
        → option_and_then (value_at more) (lookup (cut_found (cut_off rest) name ps o) other)
        ≡ option_and_then (value_at more) (lookup ps other)
    found None e = refl
    found (Some t) e = at_name t e (bytes_eq name other) refl

item_same : (name other : List ℕ) (rest more : List (List ℕ)) (ts : Items) (i j : ℕ)
    → is_empty name ≡ false → is_empty other ≡ false → meets (name ∷ rest) (other ∷ more) ≡ false
    → index_of name ≡ Some i → index_of other ≡ Some j → Same rest more
    → option_and_then (value_at more) (item_at (with_found (cut_off rest) i ts (item_at ts i)) j)
    ≡ option_and_then (value_at more) (item_at ts j)
unfolding Same index
item_same name other rest more ts i j en eo m p q below = found (item_at ts i) refl
  where
    here : j ≡ i → bytes_eq name other ≡ true → (t : Tree) → item_at ts i ≡ Some t
        → (w : Option Tree) → cut_off rest t ≡ w
        → option_and_then (value_at more) (item_at (with_found (λ (v : Tree). w) i ts (Some t)) j)
        ≡ option_and_then (value_at more) (item_at ts j)
    here same b t at None e =
        absurd (none_left rest more t e (meets_below name other rest more b m))
    here same b t at (Some u) e =
        ap (λ (k : ℕ). option_and_then (value_at more) (item_at (with_item ts i u) k)) same
        ∙ ap (option_and_then (value_at more)) (item_at-with_item ts i u (item_at-len ts i t at))
        ∙ below t u (meets_below name other rest more b m) e
        ∙ sym (ap (option_and_then (value_at more)) (ap (item_at ts) same ∙ at))

    at_index : (t : Tree) → item_at ts i ≡ Some t → (b : Bool) → (j == i) ≡ b
        → option_and_then (value_at more) (item_at (with_found (cut_off rest) i ts (Some t)) j)
        ≡ option_and_then (value_at more) (item_at ts j)
    at_index t at true b =
        let same : j ≡ i = eqb-true j i b in
        let names : name ≡ other = one_index name other i en eo p (q ∙ ap index same) in
        here same ((bytes_eq-Decides name other).1 names) t at (cut_off rest t) refl
    at_index t at false b =
        ap (option_and_then (value_at more))
        (item_at-with_item_other ts i j (unwrap_or (cut_off rest t) (scalar null))
        (eqb-false j i b))

    found : (o : Option Tree) → item_at ts i ≡ o
        → option_and_then (value_at more) (item_at (with_found (cut_off rest) i ts o) j)
        ≡ option_and_then (value_at more) (item_at ts j)
    found None e = refl
    found (Some t) e = at_index t e (j == i) refl

cut_same : (path other : List (List ℕ)) (t u : Tree) → HasNames path → HasNames other
    → meets path other ≡ false → cut_off path t ≡ Some u → value_at other u ≡ value_at other t
unfolding Same
cut_same [] other t u h k m e = absurd cc
cut_same (name ∷ rest) [] t u h k m e = absurd cc
cut_same (name ∷ rest) (part ∷ more) (scalar s) u h k m e =
    ap (value_at (part ∷ more)) (sym (some_same e))
cut_same (name ∷ rest) (part ∷ more) (document ps) u h k m e =
    ap (value_at (part ∷ more)) (sym (some_same e))
    ∙ field_same name part rest more ps m (λ t v d c. cut_same rest more t v h.1 k.1 d c)
cut_same (name ∷ rest) (part ∷ more) (array ts) u h k m e =
    ap (value_at (part ∷ more)) (sym (some_same e))
    ∙ by (index_of name) refl (index_of part) refl (λ t v d c. cut_same rest more t v h.1 k.1 d c)
  where
    by : (o : Option ℕ) → index_of name ≡ o → (r : Option ℕ) → index_of part ≡ r → Same rest more
        → option_and_then (value_at more)
        (option_and_then (item_at (cut_item (cut_off rest) o ts)) r)
        ≡ option_and_then (value_at more) (option_and_then (item_at ts) r)
    by None p r q below = refl
    by (Some i) p None q below = refl
    by (Some i) p (Some j) q below = item_same name part rest more ts i j h.0 k.0 m p q below

pub cut_keeps_others : CutKeepsOthers
cut_keeps_others name rest other ps h k m =
    cut_same (name ∷ rest) other (document ps) (document (cut_at (name ∷ rest) ps)) h k m refl

-- ---- a removal where nothing stands

abbrev pub CutAbsent : Type 0
CutAbsent = (path : List (List ℕ)) (ps : Pairs) → value_at path (document ps) ≡ None
    → cut_at path ps ≡ ps

put-same : (ps : Pairs) (name : List ℕ) (t : Tree) → lookup ps name ≡ Some t → put ps name t ≡ ps
put-same no_pairs name t e = absurd cc
put-same (pair other u ps) name t e = by (bytes_eq name other) e (put-same ps name t)
  where
    by : (b : Bool) → (if b then Some u else lookup ps name) ≡ Some t
        → (lookup ps name ≡ Some t → put ps name t ≡ ps)
        → (if b then pair other t ps else pair other u (put ps name t)) ≡ pair other u ps
    by true e later = ap (λ (v : Tree). pair other v ps) (sym (some_same e))
    by false e later = ap (pair other u) (later e)

with_item-same : (ts : Items) (i : ℕ) (t : Tree) → item_at ts i ≡ Some t → with_item ts i t ≡ ts
with_item-same no_items i t e = absurd cc
with_item-same (item u ts) zero t e = ap (λ (v : Tree). item v ts) (sym (some_same e))
with_item-same (item u ts) (suc i) t e = ap (item u) (with_item-same ts i t e)

cut_absent-field : (left : Tree → Option Tree) (goes : Tree → Option Tree) (name : List ℕ)
    (ps : Pairs) → ((u : Tree) → goes u ≡ None → left u ≡ Some u)
    → option_and_then goes (lookup ps name) ≡ None → cut_field left name ps ≡ ps
cut_absent-field left goes name ps stays e = found (lookup ps name) refl e
  where
    kept : (t : Tree) → lookup ps name ≡ Some t → (w : Option Tree) → w ≡ Some t
        → put_or_cut name ps w ≡ ps
    kept t at w p = ap (put_or_cut name ps) p ∙ put-same ps name t at

    found : (o : Option Tree) → lookup ps name ≡ o → option_and_then goes o ≡ None
        → cut_found left name ps o ≡ ps
    found None at n = refl
    found (Some t) at n = kept t at (left t) (stays t n)

cut_absent-item : (left : Tree → Option Tree) (goes : Tree → Option Tree) (o : Option ℕ)
    (ts : Items) → ((u : Tree) → goes u ≡ None → left u ≡ Some u)
    → option_and_then goes (option_and_then (item_at ts) o) ≡ None → cut_item left o ts ≡ ts
cut_absent-item left goes None ts stays e = refl
cut_absent-item left goes (Some i) ts stays e = found (item_at ts i) refl e
  where
    found : (o : Option Tree) → item_at ts i ≡ o → option_and_then goes o ≡ None
        → with_found left i ts o ≡ ts
    found None at n = refl
    found (Some t) at n =
        ap (λ (w : Option Tree). with_item ts i (unwrap_or w (scalar null))) (stays t n)
        ∙ with_item-same ts i t at

some : Tree → Option Tree
some t = Some t

cut_off-absent : (path : List (List ℕ)) (t : Tree) → value_at path t ≡ None
    → cut_off path t ≡ Some t
unfolding some
cut_off-absent [] t e = absurd cc
cut_off-absent (name ∷ rest) (scalar s) e = refl
cut_off-absent (name ∷ rest) (document ps) e =
    ap (λ (qs : Pairs). some (document qs))
    (cut_absent-field (cut_off rest) (value_at rest) name ps (cut_off-absent rest) e)
cut_off-absent (name ∷ rest) (array ts) e =
    ap (λ (us : Items). some (array us))
    (cut_absent-item (cut_off rest) (value_at rest) (index_of name) ts (cut_off-absent rest) e)

pub cut_absent : CutAbsent
cut_absent [] ps e = refl
cut_absent (name ∷ rest) ps e =
    cut_absent-field (cut_off rest) (value_at rest) name ps (cut_off-absent rest) e
