-- Groups that are looked up, written and added.
use Rattle.std.proofs.Common.{◌≡◌, ℕ, zero, suc, ◌+◌, ◌<◌, ◌≤◌, Bool, true, false, cond, List, [], ◌∷◌, ◌++◌, length, set, take, drop, get_or, map, Some, None}
use Rattle.std.proofs.Common.{Result, Ok, Err, refl, sym, ap, subst, ◌∙◌, arith, inl, inr, eq-eqb}
use Rattle.std.specs.Prelude.{◌||◌, ◌&&◌, is_some, if◌then◌else◌, OnOk}
use Rattle.std.specs.Global.{Vec}
use Rattle.std.specs.Str.{bytes_eq}
use Rattle.std.proofs.lemmas.List.{drop_all, length-set, get_or_append_left, take-append-drop, map-append}
use Rattle.std.proofs.lemmas.Bool.Decides.{eqb_tells}
use Rattle.bson.specs.Tree.{Tree, Pairs}
use Rattle.bson.specs.View.{tree}
use Rattle.indexmap.specs.IndexMap.{get}
use Rattle.value_order.specs.KeyText.{tree_text}
use Rattle.aggregate_model.specs.Accumulators.{State}
use Rattle.aggregate_model.specs.Group.{GroupField, same}
use Rattle.aggregate.specs.States.{state_of}
use Rattle.pipelines.specs.GroupView.{group_field_of}
use Rattle.aggregate.specs.Groups.{entry_of, entries_of, same_text, IsIndexed}
use Rattle.aggregate.specs.Table.{Entry, has, Apart, starts, taken, put_document}
use Rattle.aggregate.specs.declared.accumulators.State.{State as Has}
use Rattle.pipelines.specs.declared.grouping.GroupField.{GroupField as MadeField}
use Rattle.aggregate.specs.declared.groups.Group.{Group}
use Rattle.aggregate.specs.declared.groups.Groups.{Groups}
use Rattle.aggregate.proofs.GroupLemmas.{same_laws}
use Rattle.aggregate.proofs.SplitLemmas.{Apart-add}
use Rattle.aggregate.proofs.TextLemmas.{texts_equal}

pub on_ok : {A E : Type 0} {P Q : Type 0} (r : Result A E) → (P → Q) → OnOk r P → OnOk r Q
on_ok (Ok a) f h = f h
on_ok (Err e) f h = h

pub take_all_end : (fs : List MadeField) (ps : Pairs) (ss : List Has) (i : ℕ) (planned : List State) → length fs ≤ i
    → map state_of (take i ss) ++ taken (map group_field_of (drop i fs)) ps (map state_of (drop i ss)) ≡ planned → map state_of ss ≡ planned
take_all_end fs ps ss i planned le so_far =
    ap (map state_of) (sym (take-append-drop i ss))
    ∙ map-append state_of (take i ss) (drop i ss)
    ∙ sym (ap (λ (gs : List MadeField). map state_of (take i ss) ++ taken (map group_field_of gs) ps (map state_of (drop i ss))) (drop_all i fs le))
    ∙ so_far

bytes_same : (xs ys : List ℕ) → xs ≡ ys → bytes_eq xs ys ≡ true
bytes_same xs ys e = subst (λ (zs : List ℕ). bytes_eq xs zs ≡ true) e (itself xs)
  where
    itself : (zs : List ℕ) → bytes_eq zs zs ≡ true
    itself [] = refl
    itself (z ∷ zs) = (λ i. eq-eqb z z refl i && itself zs i)

-- ---- who has an `_id`

abbrev id_at : List Group → ℕ → Group → Tree
id_at xs at d = tree (get_or xs at d).id

has-at : (xs : List Group) (k : Tree) → has same (map entry_of xs) k ≡ true → (at : ℕ) × (at < length xs) × ((d : Group) → same (id_at xs at d) k ≡ true)
has-at [] k e = absurd cc
has-at (x ∷ xs) k e = by (same (tree x.id) k) refl e (has-at xs k)
  where
    by : (b : Bool) → same (tree x.id) k ≡ b → (b || has same (map entry_of xs) k) ≡ true
        → (has same (map entry_of xs) k ≡ true → (at : ℕ) × (at < length xs) × ((d : Group) → same (id_at xs at d) k ≡ true))
        → (at : ℕ) × (at < suc (length xs)) × ((d : Group) → same (id_at (x ∷ xs) at d) k ≡ true)
    by true is e later = (0, omega arith, λ d. is)
    by false is e later = let found = later e in (suc (found.0), omega (arith, found.1), found.2)

has-there : (xs : List Group) (k : Tree) (at : ℕ) → at < length xs → ((d : Group) → same (id_at xs at d) k ≡ true) → has same (map entry_of xs) k ≡ true
has-there [] k at lt is = absurd (omega (arith, lt))
has-there (x ∷ xs) k zero lt is = ap (λ (b : Bool). b || has same (map entry_of xs) k) (is x)
has-there (x ∷ xs) k (suc at) lt is = by (same (tree x.id) k) (has-there xs k at (omega (arith, lt)) is)
  where
    by : (b : Bool) → has same (map entry_of xs) k ≡ true → (b || has same (map entry_of xs) k) ≡ true
    by true later = refl
    by false later = later

not_both : (b : Bool) → b ≡ true → b ≡ false → ⊥
not_both true e f = absurd cc
not_both false e f = absurd cc

-- an `_id` whose text isn't known has no group
pub unknown : (gs : Groups) (text : Vec ℕ) (id : Tree) → IsIndexed gs → text.items ≡ tree_text id → get same_text gs.places text ≡ None
    → has same (entries_of gs) id ≡ false
unknown gs text id h is none = by (has same (entries_of gs) id) refl
  where
    by : (b : Bool) → has same (entries_of gs) id ≡ b → b ≡ false
    by false e = refl
    by true e =
        let found = has-at gs.groups.items id e in
        let known = λ (g : Group). h.known text (found.0) g (found.1) (is ∙ sym (texts_equal (id_at gs.groups.items (found.0) g) id (found.2 g))) in
        absurd (some_group gs.groups.items (found.0) (found.1) (λ (g : Group). not_both (is_some (get same_text gs.places text)) (known g) (ap is_some none)))
      where
        some_group : (xs : List Group) (at : ℕ) → at < length xs → (Group → ⊥) → ⊥
        some_group [] at lt never = absurd (omega (arith, lt))
        some_group (x ∷ xs) at lt never = never x

-- ---- a document more

module _ (fields : List GroupField) (ps : Pairs) where
  pub put_new : (es : List Entry) (k : Tree) → has same es k ≡ false → put_document fields (k, ps) es ≡ es ++ (k, taken fields ps (starts fields)) ∷ []
  put_new [] k e = refl
  put_new (x ∷ es) k e = by (same x.0 k) e (put_new es k)
    where
      by : (b : Bool) → (b || has same es k) ≡ false
          → (has same es k ≡ false → put_document fields (k, ps) es ≡ es ++ (k, taken fields ps (starts fields)) ∷ [])
          → (if b then (x.0, taken fields ps x.1) ∷ es else x ∷ put_document fields (k, ps) es) ≡ x ∷ (es ++ (k, taken fields ps (starts fields)) ∷ [])
      by true e later = absurd cc
      by false e later = ap (λ (fs : List Entry). x ∷ fs) (later e)

  pub put_there : (xs : List Group) (at : ℕ) (old g : Group) (k : Tree) → at < length xs → ((d : Group) → same (id_at xs at d) k ≡ true)
      → Apart same (map entry_of xs)
      → old ≡ get_or xs at old → tree g.id ≡ tree old.id → map state_of g.states.items ≡ taken fields ps (map state_of old.states.items)
      → map entry_of (set xs at g) ≡ put_document fields (k, ps) (map entry_of xs)
  put_there [] at old g k lt is apart was kept states = absurd (omega (arith, lt))
  put_there (x ∷ xs) zero old g k lt is apart was kept states =
      let one : entry_of g ≡ (tree x.id, taken fields ps (map state_of x.states.items)) =
      (λ i. ((kept ∙ ap (λ (y : Group). tree y.id) was) i, (states ∙ ap (λ (y : Group). taken fields ps (map state_of y.states.items)) was) i)) in
      rw (is x) (ap (λ (e : Entry). e ∷ map entry_of xs) one)
  put_there (x ∷ xs) (suc at) old g k lt is apart was kept states =
      by (same (tree x.id) k) refl (put_there xs at old g k (omega (arith, lt)) is apart.1 was kept states)
    where
      by : (b : Bool) → same (tree x.id) k ≡ b → map entry_of (set xs at g) ≡ put_document fields (k, ps) (map entry_of xs)
          → entry_of x ∷ map entry_of (set xs at g)
          ≡ (if b then (tree x.id, taken fields ps (map state_of x.states.items)) ∷ map entry_of xs
          else entry_of x ∷ put_document fields (k, ps) (map entry_of xs))
      by false e later = ap (λ (es : List Entry). entry_of x ∷ es) later
      by true e later =
          let again = λ (d : Group).
          same_laws.symm (id_at xs at d) (tree x.id)
          ∙ same_laws.congr (tree x.id) k (id_at xs at d) e
          ∙ same_laws.symm k (id_at xs at d)
          ∙ is d in
          absurd (not_both (has same (map entry_of xs) (tree x.id)) (has-there xs (tree x.id) at (omega (arith, lt)) again) apart.0)

  apart_put : (es next : List Entry) (k : Tree) → Apart same es → next ≡ put_document fields (k, ps) es → Apart same next
  apart_put es next k h is = subst (Apart same) (sym is) (Apart-add same same_laws (λ states qs. taken fields qs states) (starts fields) (k, ps) es h)

  pub indexed_there : (gs : Groups) (groups : Vec Group) (at : ℕ) (old g : Group) (k : Tree) → IsIndexed gs → at < length gs.groups.items
      → groups.items ≡ set gs.groups.items at g
      → old ≡ get_or gs.groups.items at old → tree g.id ≡ tree old.id → map entry_of groups.items ≡ put_document fields (k, ps) (entries_of gs)
      → IsIndexed (record { places = gs.places; groups = groups })
  indexed_there gs groups at old g k h lt is was kept put = record {
    apart = apart_put (entries_of gs) (map entry_of groups.items) k h.apart put;
    within = λ text i e. omega (arith, h.within text i e, ap length is, length-set gs.groups.items at g);
    known = λ text i d lti same_id.
        let before : i < length gs.groups.items = omega (arith, lti, ap length is, length-set gs.groups.items at g) in
        h.known text i d before (same_id ∙ ap tree_text (one i d before));
  }
    where
      there : (xs : List Group) (i j : ℕ) (d : Group) → i < length xs → old ≡ get_or xs j old → tree (get_or (set xs j g) i d).id ≡ tree (get_or xs i d).id
      there [] i j d lt was = absurd (omega (arith, lt))
      there (x ∷ xs) zero zero d lt was = kept ∙ ap (λ (y : Group). tree y.id) was
      there (x ∷ xs) zero (suc j) d lt was = refl
      there (x ∷ xs) (suc i) zero d lt was = refl
      there (x ∷ xs) (suc i) (suc j) d lt was = there xs i j d (omega (arith, lt)) was

      one : (i : ℕ) (d : Group) → i < length gs.groups.items → tree (get_or groups.items i d).id ≡ tree (get_or gs.groups.items i d).id
      one i d before = ap (λ (xs : List Group). tree (get_or xs i d).id) is ∙ there gs.groups.items i at d before was

  pub indexed_new : (gs : Groups) (places : _) (groups : Vec Group) (text : Vec ℕ) (g : Group) (k : Tree) → IsIndexed gs → text.items ≡ tree_text (tree g.id)
      → ((q : Vec ℕ) → get same_text places q ≡ cond (same_text text q) (Some (length gs.groups.items)) (get same_text gs.places q))
      → groups.items ≡ gs.groups.items ++ g ∷ [] → map entry_of groups.items ≡ put_document fields (k, ps) (entries_of gs)
      → IsIndexed (record { places = places; groups = groups })
  indexed_new gs places groups text g k h texted updated grown put = record {
    apart = apart_put (entries_of gs) (map entry_of groups.items) k h.apart put;
    within = λ q i e. within q i (same_text text q) (sym (updated q) ∙ e);
    known = λ q i d lt same_id. known q i d lt same_id;
  }
    where
      longer : (xs : List Group) → length (xs ++ g ∷ []) ≡ length xs + 1
      longer [] = refl
      longer (x ∷ xs) = omega (arith, longer xs)

      len : length groups.items ≡ length gs.groups.items + 1
      len = ap length grown ∙ longer gs.groups.items

      within : (q : Vec ℕ) (i : ℕ) (b : Bool) → cond b (Some (length gs.groups.items)) (get same_text gs.places q) ≡ Some i → i < length groups.items
      within q i true e = let at : length gs.groups.items ≡ i = cc in omega (arith, at, len)
      within q i false e = omega (arith, h.within q i e, len)

      at_end : (xs : List Group) (i : ℕ) (d : Group) → i ≡ length xs → get_or (xs ++ g ∷ []) i d ≡ g
      at_end [] zero d e = refl
      at_end [] (suc i) d e = absurd (omega (arith, e))
      at_end (x ∷ xs) zero d e = absurd (omega (arith, e))
      at_end (x ∷ xs) (suc i) d e = at_end xs i d (omega (arith, e))

      known : (q : Vec ℕ) (i : ℕ) (d : Group) → i < length groups.items → q.items ≡ tree_text (tree (get_or groups.items i d).id)
          → is_some (get same_text places q) ≡ true
      known q i d lt same_id = ap is_some (updated q) ∙ by (same_text text q) refl
        where
          old : (b : Bool) → same_text text q ≡ b → i < length gs.groups.items
              → is_some (cond b (Some (length gs.groups.items)) (get same_text gs.places q)) ≡ true
          old true e before = refl
          old false e before =
              h.known q i d before (same_id
              ∙ ap (λ (x : Group). tree_text (tree x.id))
              (ap (λ (xs : List Group). get_or xs i d) grown ∙ get_or_append_left gs.groups.items (g ∷ []) d i before))

          new : (b : Bool) → same_text text q ≡ b → i ≡ length gs.groups.items
              → is_some (cond b (Some (length gs.groups.items)) (get same_text gs.places q)) ≡ true
          new true e last = refl
          new false e last =
              let is : q.items ≡ tree_text (tree g.id) =
              same_id ∙ ap (λ (x : Group). tree_text (tree x.id)) (ap (λ (xs : List Group). get_or xs i d) grown ∙ at_end gs.groups.items i d last) in
              absurd (not_both (same_text text q) (bytes_same text.items q.items (texted ∙ sym is)) e)

          by : (b : Bool) → same_text text q ≡ b → is_some (cond b (Some (length gs.groups.items)) (get same_text gs.places q)) ≡ true
          by b e = elim (eqb_tells i (length gs.groups.items)) [
            | inl last ↦ new b e (last.1)
            | inr other ↦ old b e (omega (arith, lt, len, other.1))
          ]
