-- What edits keep: which values they make lawful, how deep these nest, and what look-up finds
-- afterwards.
use Rattle.std.specs.Prelude.{◌≡◌, ◌≢◌, ℕ, zero, suc, max, ◌+◌, ◌<◌, ◌≤◌, Bool, true, false}
use Rattle.std.specs.Prelude.{if◌then◌else◌, Option, Some, None, option_map, List, [], ◌∷◌, ◌++◌}
use Rattle.std.specs.Prelude.{length, take, drop, filter, ◌⊎◌, refl}
use Rattle.std.specs.Str.{bytes_eq}
use Rattle.std.proofs.Common.{inl, inr, ap, sym, subst, ◌∙◌, set, get_or, arith}
use Rattle.std.proofs.lemmas.Slice.Eq.{bytes_eq-Decides}
use Rattle.bson.specs.Tree.{Tree, Pairs, no_pairs, pair, append, Items, no_items, item}
use Rattle.bson.specs.Tree.{append_items}
use Rattle.bson.specs.View.{tree, pairs_of, items_of}
use Rattle.bson.specs.Lawful.{levels, pairs_levels, items_levels, IsName, Lacks, IsTree, IsPairs}
use Rattle.bson.specs.Lawful.{IsItems, IsDocument, IsArray}
use Rattle.bson.specs.Lookup.{lookup}
use Rattle.bson.specs.declared.value.Pair.{Pair}
use Rattle.bson.specs.declared.value.Value.{Value}
use Rattle.bson.specs.Edits.{pairs_len, items_len, place, pair_at, item_at, with_value, with_item}
use Rattle.bson.specs.Edits.{without_pair, without_item, put, cut}
use Rattle.bson.specs.EditPlaces.{IsPairs-append, IsItems-append, pairs_levels-append}
use Rattle.bson.specs.EditPlaces.{items_levels-append, IsPairs-with_value, IsItems-with_item}
use Rattle.bson.specs.EditPlaces.{pairs_levels-with_value, items_levels-with_item}
use Rattle.bson.specs.EditPlaces.{IsPairs-without_pair, IsItems-without_item}
use Rattle.bson.specs.EditPlaces.{pairs_levels-without_pair, items_levels-without_item}

-- ---- by name

bool_cases : (b : Bool) → (b ≡ true) ⊎ (b ≡ false)
bool_cases true = inl refl
bool_cases false = inr refl

bytes_eq-self : (name : List ℕ) → bytes_eq name name ≡ true
bytes_eq-self name = (bytes_eq-Decides name name).1 refl

bytes_eq-other : (name other : List ℕ) → name ≢ other → bytes_eq name other ≡ false
bytes_eq-other name other ne =
    elim (bool_cases (bytes_eq name other))
    [ inl same ↦ absurd (ne ((bytes_eq-Decides name other).0 same)) | inr differ ↦ differ ]

absent_step : (b : Bool) (o : Option ℕ) → (if b then Some 0 else option_map suc o) ≡ None
    → (b ≡ false) × (o ≡ None)
absent_step true o e = absurd cc
absent_step false (Some j) e = absurd cc
absent_step false None e = (refl, refl)

-- a name that stands there is at its place
pub place-there : (ps : Pairs) (name : List ℕ) (i : ℕ) → place ps name ≡ Some i
    → (t : Tree) × (pair_at ps i ≡ Some (name, t)) × (lookup ps name ≡ Some t) × (i < pairs_len ps)
place-there no_pairs name i e = absurd cc
place-there (pair other u ps) name i e =
    elim (bool_cases (bytes_eq name other)) [
      | inl same ↦
          let at : 0 ≡ i = place_first (bytes_eq name other) (place ps name) i same e in
          let named : name ≡ other = (bytes_eq-Decides name other).0 same in
          subst (λ (k : ℕ). (t : Tree) × (pair_at (pair other u ps) k ≡ Some (name, t))
          × (lookup (pair other u ps) name ≡ Some t) × (k < pairs_len (pair other u ps))) at
          (u, ap (λ (n : List ℕ). Some (n, u)) (sym named), rw same refl, omega arith)
      | inr differ ↦
          let later = place_later (bytes_eq name other) (place ps name) i differ e in
          let more = place-there ps name later.0 later.2 in
          subst (λ (k : ℕ). (t : Tree) × (pair_at (pair other u ps) k ≡ Some (name, t))
          × (lookup (pair other u ps) name ≡ Some t) × (k < pairs_len (pair other u ps)))
          (sym later.1) (
            more.0,
            more.1,
            ap (λ (b : Bool). if b then Some u else lookup ps name) differ
                ∙ more.2,
            omega (arith, more.3),
          )
    ]
  where
    place_first : (b : Bool) (o : Option ℕ) (i : ℕ) → b ≡ true
        → (if b then Some 0 else option_map suc o) ≡ Some i → 0 ≡ i
    place_first true o i b-is e = cc
    place_first false o i b-is e = absurd cc

    place_later : (b : Bool) (o : Option ℕ) (i : ℕ) → b ≡ false
        → (if b then Some 0 else option_map suc o) ≡ Some i → (j : ℕ) × (i ≡ suc j) × (o ≡ Some j)
    place_later true o i b-is e = absurd cc
    place_later false (Some j) i b-is e = (j, cc, refl)
    place_later false None i b-is e = absurd cc

-- a name that has no place is not there
pub place-absent : (ps : Pairs) (name : List ℕ) → place ps name ≡ None
    → Lacks ps name × (lookup ps name ≡ None)
place-absent no_pairs name e = (tt, refl)
place-absent (pair other u ps) name e =
    let step = absent_step (bytes_eq name other) (place ps name) e in
    let more = place-absent ps name step.1 in
    ((λ same. let f = (bytes_eq-Decides name other).1 same in absurd cc, more.0), rw step.0 more.1)

pub place-Lacks : (ps : Pairs) (name : List ℕ) → Lacks ps name → place ps name ≡ None
place-Lacks no_pairs name h = refl
place-Lacks (pair other u ps) name h =
    rw (bytes_eq-other name other h.0, place-Lacks ps name h.1) refl

pub put-place : (ps : Pairs) (name : List ℕ) (t : Tree) (i : ℕ) → place ps name ≡ Some i
    → put ps name t ≡ with_value ps i t
put-place no_pairs name t i e = absurd cc
put-place (pair other u ps) name t i e =
    step (bytes_eq name other) (place ps name) i e (λ j there. put-place ps name t j there)
  where
    step : (b : Bool) (o : Option ℕ) (i : ℕ) → (if b then Some 0 else option_map suc o) ≡ Some i
        → ((j : ℕ) → o ≡ Some j → put ps name t ≡ with_value ps j t)
        → (if b then pair other t ps else pair other u (put ps name t))
        ≡ with_value (pair other u ps) i t
    step true o i e more = let at : 0 ≡ i = cc in
        ap (λ (k : ℕ). with_value (pair other u ps) k t) at
    step false (Some j) i e more = let at : suc j ≡ i = cc in
        ap (pair other u) (more j refl) ∙ ap (λ (k : ℕ). with_value (pair other u ps) k t) at
    step false None i e more = absurd cc

pub put-absent : (ps : Pairs) (name : List ℕ) (t : Tree) → place ps name ≡ None
    → put ps name t ≡ append ps (pair name t no_pairs)
put-absent no_pairs name t e = refl
put-absent (pair other u ps) name t e =
    let step = absent_step (bytes_eq name other) (place ps name) e in
    rw step.0 (ap (pair other u) (put-absent ps name t step.1))

pub cut-place : (ps : Pairs) (name : List ℕ) (i : ℕ) → place ps name ≡ Some i
    → cut ps name ≡ without_pair ps i
cut-place no_pairs name i e = absurd cc
cut-place (pair other u ps) name i e =
    step (bytes_eq name other) (place ps name) i e (λ j there. cut-place ps name j there)
  where
    step : (b : Bool) (o : Option ℕ) (i : ℕ) → (if b then Some 0 else option_map suc o) ≡ Some i
        → ((j : ℕ) → o ≡ Some j → cut ps name ≡ without_pair ps j)
        → (if b then ps else pair other u (cut ps name)) ≡ without_pair (pair other u ps) i
    step true o i e more = let at : 0 ≡ i = cc in
        ap (λ (k : ℕ). without_pair (pair other u ps) k) at
    step false (Some j) i e more = let at : suc j ≡ i = cc in
        ap (pair other u) (more j refl) ∙ ap (λ (k : ℕ). without_pair (pair other u ps) k) at
    step false None i e more = absurd cc

pub cut-absent : (ps : Pairs) (name : List ℕ) → place ps name ≡ None → cut ps name ≡ ps
cut-absent no_pairs name e = refl
cut-absent (pair other u ps) name e =
    let step = absent_step (bytes_eq name other) (place ps name) e in
    rw step.0 (ap (pair other u) (cut-absent ps name step.1))

pub IsPairs-put : (ps : Pairs) (name : List ℕ) (t : Tree) → IsPairs ps → IsName name → IsTree t
    → IsPairs (put ps name t)
IsPairs-put ps name t h n l = at (place ps name) refl
  where
    at : (o : Option ℕ) → place ps name ≡ o → IsPairs (put ps name t)
    at (Some i) e = subst IsPairs (sym (put-place ps name t i e)) (IsPairs-with_value ps i t h l)
    at None e = subst IsPairs (sym (put-absent ps name t e))
        (IsPairs-append ps name t h n l (place-absent ps name e).0)

pub IsPairs-cut : (ps : Pairs) (name : List ℕ) → IsPairs ps → IsPairs (cut ps name)
IsPairs-cut ps name h = at (place ps name) refl
  where
    at : (o : Option ℕ) → place ps name ≡ o → IsPairs (cut ps name)
    at (Some i) e = subst IsPairs (sym (cut-place ps name i e)) (IsPairs-without_pair ps i h)
    at None e = subst IsPairs (sym (cut-absent ps name e)) h

pub pairs_levels-put : (ps : Pairs) (name : List ℕ) (t : Tree)
    → pairs_levels (put ps name t) ≤ max (pairs_levels ps) (levels t)
pairs_levels-put ps name t = at (place ps name) refl
  where
    at : (o : Option ℕ) → place ps name ≡ o
        → pairs_levels (put ps name t) ≤ max (pairs_levels ps) (levels t)
    at (Some i) e =
        omega (arith, ap pairs_levels (put-place ps name t i e), pairs_levels-with_value ps i t)
    at None e = omega (
      arith,
      ap pairs_levels (put-absent ps name t e),
      pairs_levels-append ps (pair name t no_pairs),
    )

pub pairs_levels-cut : (ps : Pairs) (name : List ℕ) → pairs_levels (cut ps name) ≤ pairs_levels ps
pairs_levels-cut ps name = at (place ps name) refl
  where
    at : (o : Option ℕ) → place ps name ≡ o → pairs_levels (cut ps name) ≤ pairs_levels ps
    at (Some i) e =
        omega (arith, ap pairs_levels (cut-place ps name i e), pairs_levels-without_pair ps i)
    at None e = omega (arith, ap pairs_levels (cut-absent ps name e))

-- what was put is found
pub lookup-put : (ps : Pairs) (name : List ℕ) (t : Tree) → lookup (put ps name t) name ≡ Some t
lookup-put no_pairs name t = rw (bytes_eq-self name) refl
lookup-put (pair other u ps) name t =
    elim (bool_cases (bytes_eq name other)) [
      | inl same ↦ rw (same, same) refl
      | inr differ ↦ rw (differ, differ) (lookup-put ps name t)
    ]

-- and nothing else is changed
pub lookup-put_other : (ps : Pairs) (name other : List ℕ) (t : Tree) → other ≢ name
    → lookup (put ps name t) other ≡ lookup ps other
lookup-put_other no_pairs name other t ne = rw (bytes_eq-other other name ne) refl
lookup-put_other (pair first u ps) name other t ne =
    elim (bool_cases (bytes_eq name first)) [
      | inl same ↦
          let named : name ≡ first = (bytes_eq-Decides name first).0 same in
          let differ : bytes_eq other first ≡ false =
          bytes_eq-other other first (λ e. ne (e ∙ sym named)) in
          rw (same, differ) refl
      | inr differ ↦ rw differ
          (ap (λ (o : Option Tree). if bytes_eq other first then Some u else o)
          (lookup-put_other ps name other t ne))
    ]

pub lookup-absent : (ps : Pairs) (name : List ℕ) → Lacks ps name → lookup ps name ≡ None
lookup-absent no_pairs name h = refl
lookup-absent (pair other u ps) name h =
    rw (bytes_eq-other name other h.0) (lookup-absent ps name h.1)

-- what was cut is not found
pub lookup-cut : (ps : Pairs) (name : List ℕ) → IsPairs ps → lookup (cut ps name) name ≡ None
lookup-cut no_pairs name h = refl
lookup-cut (pair other u ps) name h =
    elim (bool_cases (bytes_eq name other)) [
      | inl same ↦ rw same
          (lookup-absent ps name
          (subst (Lacks ps) (sym ((bytes_eq-Decides name other).0 same)) h.2))
      | inr differ ↦ rw (differ, differ) (lookup-cut ps name h.3)
    ]

pub lookup-cut_other : (ps : Pairs) (name other : List ℕ) → other ≢ name
    → lookup (cut ps name) other ≡ lookup ps other
lookup-cut_other no_pairs name other ne = refl
lookup-cut_other (pair first u ps) name other ne =
    elim (bool_cases (bytes_eq name first)) [
      | inl same ↦
          let named : name ≡ first = (bytes_eq-Decides name first).0 same in
          let differ : bytes_eq other first ≡ false =
          bytes_eq-other other first (λ e. ne (e ∙ sym named)) in
          rw (same, differ) refl
      | inr differ ↦ rw differ
          (ap (λ (o : Option Tree). if bytes_eq other first then Some u else o)
          (lookup-cut_other ps name other ne))
    ]

-- ---- what edits of a list of pairs or items do to what it stands for

pub pairs_len-pairs_of : (ps : List Pair) → pairs_len (pairs_of ps) ≡ length ps
pairs_len-pairs_of [] = refl
pairs_len-pairs_of (p ∷ ps) = ap suc (pairs_len-pairs_of ps)

pub items_len-items_of : (vs : List Value) → items_len (items_of vs) ≡ length vs
items_len-items_of [] = refl
items_len-items_of (v ∷ vs) = ap suc (items_len-items_of vs)

pub pairs_of-push : (ps : List Pair) (p : Pair)
    → pairs_of (ps ++ p ∷ []) ≡ append (pairs_of ps) (pair p.name (tree p.value) no_pairs)
pairs_of-push [] p = refl
pairs_of-push (q ∷ qs) p = ap (pair q.name (tree q.value)) (pairs_of-push qs p)

pub items_of-push : (vs : List Value) (v : Value)
    → items_of (vs ++ v ∷ []) ≡ append_items (items_of vs) (item (tree v) no_items)
items_of-push [] v = refl
items_of-push (w ∷ ws) v = ap (item (tree w)) (items_of-push ws v)

pub pairs_of-set : (ps : List Pair) (i : ℕ) (p : Pair) (d : Pair) → p.name ≡ (get_or ps i d).name
    → pairs_of (set ps i p) ≡ with_value (pairs_of ps) i (tree p.value)
pairs_of-set [] i p d e = refl
pairs_of-set (q ∷ qs) zero p d e = ap (λ (n : List ℕ). pair n (tree p.value) (pairs_of qs)) e
pairs_of-set (q ∷ qs) (suc i) p d e = ap (pair q.name (tree q.value)) (pairs_of-set qs i p d e)

pub items_of-set : (vs : List Value) (i : ℕ) (v : Value)
    → items_of (set vs i v) ≡ with_item (items_of vs) i (tree v)
items_of-set [] i v = refl
items_of-set (w ∷ ws) zero v = refl
items_of-set (w ∷ ws) (suc i) v = ap (item (tree w)) (items_of-set ws i v)

pub pairs_of-remove : (ps : List Pair) (i : ℕ)
    → pairs_of (take i ps ++ drop (suc i) ps) ≡ without_pair (pairs_of ps) i
pairs_of-remove [] zero = refl
pairs_of-remove [] (suc i) = refl
pairs_of-remove (q ∷ qs) zero = refl
pairs_of-remove (q ∷ qs) (suc i) = ap (pair q.name (tree q.value)) (pairs_of-remove qs i)

pub items_of-remove : (vs : List Value) (i : ℕ)
    → items_of (take i vs ++ drop (suc i) vs) ≡ without_item (items_of vs) i
items_of-remove [] zero = refl
items_of-remove [] (suc i) = refl
items_of-remove (w ∷ ws) zero = refl
items_of-remove (w ∷ ws) (suc i) = ap (item (tree w)) (items_of-remove ws i)

pub pair_at-pairs_of : (ps : List Pair) (i : ℕ) (d : Pair) → i < length ps
    → pair_at (pairs_of ps) i ≡ Some ((get_or ps i d).name, tree (get_or ps i d).value)
pair_at-pairs_of [] i d lt = absurd (omega arith)
pair_at-pairs_of (q ∷ qs) zero d lt = refl
pair_at-pairs_of (q ∷ qs) (suc i) d lt = pair_at-pairs_of qs i d (omega arith)

pub item_at-items_of : (vs : List Value) (i : ℕ) (d : Value) → i < length vs
    → item_at (items_of vs) i ≡ Some (tree (get_or vs i d))
item_at-items_of [] i d lt = absurd (omega arith)
item_at-items_of (w ∷ ws) zero d lt = refl
item_at-items_of (w ∷ ws) (suc i) d lt = item_at-items_of ws i d (omega arith)

-- ---- whole documents and arrays

pub IsDocument-with_value : (ps : Pairs) (i : ℕ) (t : Tree) → IsDocument ps → IsTree t
    → levels t ≤ 99 → IsDocument (with_value ps i t)
IsDocument-with_value ps i t h l deep = record {
  lawful = IsPairs-with_value ps i t h.lawful l;
  depth = omega (arith, h.depth, pairs_levels-with_value ps i t);
}

pub IsDocument-without_pair : (ps : Pairs) (i : ℕ) → IsDocument ps → IsDocument (without_pair ps i)
IsDocument-without_pair ps i h = record {
  lawful = IsPairs-without_pair ps i h.lawful;
  depth = omega (arith, h.depth, pairs_levels-without_pair ps i);
}

pub IsDocument-append : (ps : Pairs) (name : List ℕ) (t : Tree) → IsDocument ps → IsName name
    → IsTree t → levels t ≤ 99 → Lacks ps name → IsDocument (append ps (pair name t no_pairs))
IsDocument-append ps name t h n l deep new = record {
  lawful = IsPairs-append ps name t h.lawful n l new;
  depth = omega (arith, h.depth, pairs_levels-append ps (pair name t no_pairs));
}

pub IsDocument-put : (ps : Pairs) (name : List ℕ) (t : Tree) → IsDocument ps → IsName name
    → IsTree t → levels t ≤ 99 → IsDocument (put ps name t)
IsDocument-put ps name t h n l deep = record {
  lawful = IsPairs-put ps name t h.lawful n l;
  depth = omega (arith, h.depth, pairs_levels-put ps name t);
}

pub IsDocument-cut : (ps : Pairs) (name : List ℕ) → IsDocument ps → IsDocument (cut ps name)
IsDocument-cut ps name h = record {
  lawful = IsPairs-cut ps name h.lawful;
  depth = omega (arith, h.depth, pairs_levels-cut ps name);
}

pub IsArray-append : (ts : Items) (t : Tree) → IsArray ts → IsTree t → levels t ≤ 98
    → IsArray (append_items ts (item t no_items))
IsArray-append ts t h l deep = record {
  lawful = IsItems-append ts t h.lawful l;
  depth = omega (arith, h.depth, items_levels-append ts (item t no_items));
}

pub IsArray-with_item : (ts : Items) (i : ℕ) (t : Tree) → IsArray ts → IsTree t → levels t ≤ 98
    → IsArray (with_item ts i t)
IsArray-with_item ts i t h l deep = record {
  lawful = IsItems-with_item ts i t h.lawful l;
  depth = omega (arith, h.depth, items_levels-with_item ts i t);
}

pub IsArray-without_item : (ts : Items) (i : ℕ) → IsArray ts → IsArray (without_item ts i)
IsArray-without_item ts i h = record {
  lawful = IsItems-without_item ts i h.lawful;
  depth = omega (arith, h.depth, items_levels-without_item ts i);
}

-- a pair in front of the others
pub IsDocument-pair : (name : List ℕ) (t : Tree) (ps : Pairs) → IsName name → IsTree t
    → levels t ≤ 99 → Lacks ps name → IsDocument ps → IsDocument (pair name t ps)
IsDocument-pair name t ps n l deep new h = record
    { lawful = (n, l, new, h.lawful); depth = omega (arith, deep, h.depth) }

-- ---- those pairs or items that a test keeps

kept_lacks : (b : Bool) (p : Pair) (ps : List Pair) (name : List ℕ) → name ≢ p.name
    → Lacks (pairs_of ps) name → Lacks (pairs_of (if b then p ∷ ps else ps)) name
kept_lacks true p ps name ne h = (ne, h)
kept_lacks false p ps name ne h = h

Lacks-filter : (test : Pair → Bool) (ps : List Pair) (name : List ℕ) → Lacks (pairs_of ps) name
    → Lacks (pairs_of (filter test ps)) name
Lacks-filter test [] name h = tt
Lacks-filter test (p ∷ ps) name h =
    kept_lacks (test p) p (filter test ps) name h.0 (Lacks-filter test ps name h.1)

kept_pairs : (b : Bool) (p : Pair) (ps : List Pair) → IsName p.name → IsTree (tree p.value)
    → Lacks (pairs_of ps) p.name → IsPairs (pairs_of ps)
    → IsPairs (pairs_of (if b then p ∷ ps else ps))
kept_pairs true p ps n l new h = (n, l, new, h)
kept_pairs false p ps n l new h = h

IsPairs-filter : (test : Pair → Bool) (ps : List Pair) → IsPairs (pairs_of ps)
    → IsPairs (pairs_of (filter test ps))
IsPairs-filter test [] h = tt
IsPairs-filter test (p ∷ ps) h =
    kept_pairs (test p) p (filter test ps) h.0 h.1 (Lacks-filter test ps p.name h.2)
    (IsPairs-filter test ps h.3)

kept_pairs_levels : (b : Bool) (p : Pair) (ps : List Pair)
    → pairs_levels (pairs_of (if b then p ∷ ps else ps))
    ≤ max (levels (tree p.value)) (pairs_levels (pairs_of ps))
kept_pairs_levels true p ps = omega arith
kept_pairs_levels false p ps = omega arith

pairs_levels-filter : (test : Pair → Bool) (ps : List Pair)
    → pairs_levels (pairs_of (filter test ps)) ≤ pairs_levels (pairs_of ps)
pairs_levels-filter test [] = omega arith
pairs_levels-filter test (p ∷ ps) =
    omega (arith, kept_pairs_levels (test p) p (filter test ps), pairs_levels-filter test ps)

pub IsDocument-filter : (test : Pair → Bool) (ps : List Pair) → IsDocument (pairs_of ps)
    → IsDocument (pairs_of (filter test ps))
IsDocument-filter test ps h = record {
  lawful = IsPairs-filter test ps h.lawful;
  depth = omega (arith, h.depth, pairs_levels-filter test ps);
}

kept_items : (b : Bool) (v : Value) (vs : List Value) → IsTree (tree v) → IsItems (items_of vs)
    → IsItems (items_of (if b then v ∷ vs else vs))
kept_items true v vs l h = (l, h)
kept_items false v vs l h = h

IsItems-filter : (test : Value → Bool) (vs : List Value) → IsItems (items_of vs)
    → IsItems (items_of (filter test vs))
IsItems-filter test [] h = tt
IsItems-filter test (v ∷ vs) h =
    kept_items (test v) v (filter test vs) h.0 (IsItems-filter test vs h.1)

kept_items_levels : (b : Bool) (v : Value) (vs : List Value)
    → items_levels (items_of (if b then v ∷ vs else vs))
    ≤ max (levels (tree v)) (items_levels (items_of vs))
kept_items_levels true v vs = omega arith
kept_items_levels false v vs = omega arith

items_levels-filter : (test : Value → Bool) (vs : List Value)
    → items_levels (items_of (filter test vs)) ≤ items_levels (items_of vs)
items_levels-filter test [] = omega arith
items_levels-filter test (v ∷ vs) =
    omega (arith, kept_items_levels (test v) v (filter test vs), items_levels-filter test vs)

pub IsArray-filter : (test : Value → Bool) (vs : List Value) → IsArray (items_of vs)
    → IsArray (items_of (filter test vs))
IsArray-filter test vs h = record {
  lawful = IsItems-filter test vs h.lawful;
  depth = omega (arith, h.depth, items_levels-filter test vs);
}
