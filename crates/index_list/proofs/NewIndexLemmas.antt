-- Which indexes are to be made, and what they make of a collection.
use Rattle.std.proofs.Common.{◌≡◌, ◌≢◌, ◌⊎◌, inl, inr, ◌+◌, ◌<◌, ◌≤◌, ℕ, suc, Bool, true, false, ◌&&◌, ◌||◌, List, [], ◌∷◌, ◌++◌, length, length-append, get_or}
use Rattle.std.proofs.Common.{drop, map, Result, Ok, Err, refl, sym, ap, subst, ◌∙◌, arith}
use Rattle.std.specs.Prelude.{◌==◌, nat_le, if◌then◌else◌, All}
use Rattle.std.specs.List.{AllByRecursion, list_any}
use Rattle.std.proofs.lemmas.List.Elements.{All-head, All-tail}
use Rattle.std.proofs.lemmas.Bool.Decides.{nat_tests}
use Rattle.std.proofs.lemmas.List.{drop_all}
use Rattle.outcome.specs.Outcome.{unless}
use Rattle.path.specs.declared.refusal.Refusal.{Refusal}
use Rattle.path.specs.declared.refusal.Refusal.TheVariants as refusals
use Rattle.command_model.specs.NewIndex.{IsShortNewIndex, NewIndex, defined}
use Rattle.command_model.specs.OutcomeLaws.{step_of}
use Rattle.index.specs.Definition.{Definition, Field}
use Rattle.entry_model.specs.Entering.{DocumentWrite, enter_each, entered}
use Rattle.entry_model.specs.WithIndex.{alone, as_new, with_index}
use Rattle.index.specs.IndexKeys.{noted}
use Rattle.entry_model.specs.State.{Collection, empty_collection, uses}
use Rattle.entry_model.proofs.EnteringLemmas.{has_entered}
use Rattle.entry_model.proofs.KeptSteps.{long_map}
use Rattle.entry_model.proofs.LawfulLaws.{all_of}
use Rattle.entry_model.proofs.MemberLemmas.{Among}
use Rattle.database_model.specs.CreateIndexes.{are_same_fields, is_in_conflict, is_same_field, is_there, numbered, unused_index, with_new_index}
use Rattle.database_model.specs.CreateIndexes.{with_new_indexes}
use Rattle.database_model.specs.Lawful.{AreShortIndexes, IsShortIndex}
use Rattle.database_model.proofs.Numbers.{unused_unused}
use Rattle.database_model.proofs.ShortIndexes.{noted_short}
use Rattle.replies.proofs.Steps.{drop_step}

-- ---- fields

pub longer_differ : (a b : List Field) → (length a ≡ length b → ⊥) → are_same_fields a b ≡ false
longer_differ [] [] other = absurd (other refl)
longer_differ [] (g ∷ gs) other = refl
longer_differ (f ∷ fs) [] other = refl
longer_differ (f ∷ fs) (g ∷ gs) other =
    ap (λ (b : Bool). is_same_field f g && b) (longer_differ fs gs (λ same. other (ap suc same))) ∙ and_false (is_same_field f g)
  where
    and_false : (b : Bool) → (b && false) ≡ false
    and_false true = refl
    and_false false = refl

module _ (a b : List Field) (i : ℕ) (long : length a ≡ length b) (so_far : are_same_fields (drop i a) (drop i b) ≡ are_same_fields a b) where
  module _ (f g : Field) (within : i < length a) (f_is : f ≡ get_or a i f) (g_is : g ≡ get_or b i g) where
    next_fields : are_same_fields (drop i a) (drop i b) ≡ (is_same_field f g && are_same_fields (drop (i + 1) a) (drop (i + 1) b))
    next_fields t = are_same_fields (drop_step a i f within f_is t) (drop_step b i g (omega (arith, within, long)) g_is t)

    pub differ_here : is_same_field f g ≡ false → false ≡ are_same_fields a b
    differ_here other = sym (next_fields ∙ ap (λ (x : Bool). x && are_same_fields (drop (i + 1) a) (drop (i + 1) b)) other) ∙ so_far

    pub same_here : is_same_field f g ≡ true → are_same_fields (drop (i + 1) a) (drop (i + 1) b) ≡ are_same_fields a b
    same_here same = sym (next_fields ∙ ap (λ (x : Bool). x && are_same_fields (drop (i + 1) a) (drop (i + 1) b)) same) ∙ so_far

  pub same_all : length a ≤ i → true ≡ are_same_fields a b
  same_all past = sym (λ t. are_same_fields (drop_all i a past t) (drop_all i b (omega (arith, past, long)) t)) ∙ so_far

-- ---- the number of a new index

pub has_number_is : (is : List Definition) (n : ℕ) → uses (numbered is) n ≡ list_any (λ i. i.number == n) is
has_number_is [] n = refl
has_number_is (i ∷ is) n = ap (λ (b : Bool). (i.number == n) || b) (has_number_is is n)

-- none of the indexes has the new one's number
pub fresh_number : (is : List Definition) → All (λ j. j.number ≢ unused_index is) is
fresh_number is = all_of (λ j. j.number ≢ unused_index is) is (λ j there same. by is j there same (unused_unused (map (λ i. empty_collection [] i.number) is)))
  where
    by : (js : List Definition) (j : Definition) → Among j js → j.number ≡ unused_index is
        → uses (map (λ i. empty_collection [] i.number) js) (unused_index is) ≡ false → ⊥
    by [] j there same free = there
    by (k ∷ js) j (inl this) same free =
        let is_it : (k.number == unused_index is) ≡ true = grind (arith, nat_tests, ap (λ (x : Definition). x.number) this, same) in
        let both : true ≡ false = sym (ap (λ (b : Bool). b || uses (map (λ i. empty_collection [] i.number) js) (unused_index is)) is_it) ∙ free in
        cc
    by (k ∷ js) j (inr later) same free = by js j later same (rest (k.number == unused_index is) free)
      where
        rest : (b : Bool) → (b || uses (map (λ i. empty_collection [] i.number) js) (unused_index is)) ≡ false
            → uses (map (λ i. empty_collection [] i.number) js) (unused_index is) ≡ false
        rest true e = absurd cc
        rest false e = e

-- ---- what is planned

module _ (c : Collection) (n : NewIndex) where
  abbrev after_conflict : Bool → Result Collection Refusal
  after_conflict b =
      unless b refusals.IndexOptionsConflict (unless (nat_le 16 (length c.indexes)) refusals.TooMany (with_index c (defined (unused_index c.indexes) n)))

  pub planned_there : is_there c.indexes n ≡ true → with_new_index c n ≡ Ok c
  planned_there there = ap (λ (b : Bool). if b then Ok c else after_conflict (is_in_conflict c.indexes n)) there

  module _ (new : is_there c.indexes n ≡ false) where
    planned_new : with_new_index c n ≡ after_conflict (is_in_conflict c.indexes n)
    planned_new = ap (λ (b : Bool). if b then Ok c else after_conflict (is_in_conflict c.indexes n)) new

    pub planned_conflict : is_in_conflict c.indexes n ≡ true → with_new_index c n ≡ Err refusals.IndexOptionsConflict
    planned_conflict conflict = planned_new ∙ ap after_conflict conflict

    module _ (clear : is_in_conflict c.indexes n ≡ false) where
      pub planned_full : 16 ≤ length c.indexes → with_new_index c n ≡ Err refusals.TooMany
      planned_full many =
          let full : nat_le 16 (length c.indexes) ≡ true = grind (arith, nat_tests) in
          planned_new ∙ ap after_conflict clear ∙ ap (λ (b : Bool). unless b refusals.TooMany (with_index c (defined (unused_index c.indexes) n))) full

      pub planned_made : length c.indexes < 16 → with_new_index c n ≡ with_index c (defined (unused_index c.indexes) n)
      planned_made few =
          let room : nat_le 16 (length c.indexes) ≡ false = grind (arith, nat_tests) in
          planned_new ∙ ap after_conflict clear ∙ ap (λ (b : Bool). unless b refusals.TooMany (with_index c (defined (unused_index c.indexes) n))) room

-- the collection is as it was, or has an index more and is as it was but for its indexes
pub record IsWithMore (c next : Collection) : Type 0 where
  pub named : next.name ≡ c.name
  pub numbered : next.number ≡ c.number
  pub documents : next.documents ≡ c.documents
  pub longer : (next ≡ c) ⊎ (length c.indexes < length next.indexes)

with_more_itself : (c : Collection) → IsWithMore c c
with_more_itself c = record { named = refl; numbered = refl; documents = refl; longer = inl refl }

each_long : (ws : List DocumentWrite) (c next : Collection) → enter_each c ws ≡ Ok next → length next.indexes ≡ length c.indexes
each_long [] c next e = let same : c ≡ next = cc in ap (λ (n : Collection). length n.indexes) (sym same)
each_long (w ∷ ws) c next e =
    let s = step_of (entered c w) (λ mid. enter_each mid ws) next e in
    each_long ws s.0 next s.2 ∙ ap (λ (n : Collection). length n.indexes) (has_entered c s.0 w s.1).is ∙ long_map (noted w.document) c.indexes

with_index_more : (c next : Collection) (i : Definition) → with_index c i ≡ Ok next → IsWithMore c next
with_index_more c next i e =
    let s = step_of (enter_each (alone c i) (map as_new c.documents)) (λ made. Ok (record c { indexes = c.indexes ++ made.indexes })) next e in
    let long = each_long (map as_new c.documents) (alone c i) s.0 s.1 in
    let same : record c { indexes = c.indexes ++ s.0.indexes } ≡ next = cc in
    subst (IsWithMore c) same
    (record { named = refl; numbered = refl; documents = refl; longer = inr (omega (arith, long, length-append c.indexes s.0.indexes)) })

pub with_new_index_more : (c next : Collection) (n : NewIndex) → with_new_index c n ≡ Ok next → IsWithMore c next
with_new_index_more c next n e = by (is_there c.indexes n) (is_in_conflict c.indexes n) (nat_le 16 (length c.indexes)) e
  where
    new : Definition
    new = defined (unused_index c.indexes) n

    by : (there conflict full : Bool)
        → (if there then Ok c else unless conflict refusals.IndexOptionsConflict (unless full refusals.TooMany (with_index c new))) ≡ Ok next
        → IsWithMore c next
    by true conflict full f = let same : c ≡ next = cc in subst (IsWithMore c) same (with_more_itself c)
    by false true full f = absurd cc
    by false false true f = absurd cc
    by false false false f = with_index_more c next new f

more_behind : (a b c : Collection) → IsWithMore a b → IsWithMore b c → IsWithMore a c
more_behind a b c first later = record {
  named = later.named ∙ first.named;
  numbered = later.numbered ∙ first.numbered;
  documents = later.documents ∙ first.documents;
  longer = by first.longer later.longer;
}
  where
    by : (b ≡ a) ⊎ (length a.indexes < length b.indexes) → (c ≡ b) ⊎ (length b.indexes < length c.indexes) → (c ≡ a) ⊎ (length a.indexes < length c.indexes)
    by (inl e) (inl f) = inl (f ∙ e)
    by (inl e) (inr g) = inr (omega (arith, g, ap (λ (x : Collection). length x.indexes) e))
    by (inr l) (inl f) = inr (omega (arith, l, ap (λ (x : Collection). length x.indexes) f))
    by (inr l) (inr g) = inr (omega (arith, l, g))

pub with_new_indexes_more : (c next : Collection) (ns : List NewIndex) → with_new_indexes c ns ≡ Ok next → IsWithMore c next
with_new_indexes_more c next [] e = let same : c ≡ next = cc in subst (IsWithMore c) same (with_more_itself c)
with_new_indexes_more c next (n ∷ ns) e =
    let s = step_of (with_new_index c n) (λ mid. with_new_indexes mid ns) next e in
    more_behind c s.0 next (with_new_index_more c s.0 n s.1) (with_new_indexes_more s.0 next ns s.2)

-- ---- within the limits

each_noted : (ws : List DocumentWrite) (c next : Collection) → enter_each c ws ≡ Ok next → AreShortIndexes c.indexes → AreShortIndexes next.indexes
each_noted [] c next e h = let same : c ≡ next = cc in subst (λ (n : Collection). AreShortIndexes n.indexes) same h
each_noted (w ∷ ws) c next e h =
    let s = step_of (entered c w) (λ mid. enter_each mid ws) next e in
    each_noted ws s.0 next s.2
    (subst AreShortIndexes (sym (ap (λ (n : Collection). n.indexes) (has_entered c s.0 w s.1).is)) (noted_short w.document c.indexes h))

both_short : (is js : List Definition) → AllByRecursion IsShortIndex is → AllByRecursion IsShortIndex js → AllByRecursion IsShortIndex (is ++ js)
both_short [] js h k = k
both_short (i ∷ is) js h k = (h.0, both_short is js h.1 k)

with_index_short : (c next : Collection) (i : Definition) → IsShortIndex i → AreShortIndexes c.indexes → length c.indexes < 16 → with_index c i ≡ Ok next
    → AreShortIndexes next.indexes
with_index_short c next i short h few e =
    let s = step_of (enter_each (alone c i) (map as_new c.documents)) (λ made. Ok (record c { indexes = c.indexes ++ made.indexes })) next e in
    let long = each_long (map as_new c.documents) (alone c i) s.0 s.1 in
    let made = each_noted (map as_new c.documents) (alone c i) s.0 s.1 (record { each = (short, tt); few = omega arith }) in
    let same : record c { indexes = c.indexes ++ s.0.indexes } ≡ next = cc in
    subst (λ (n : Collection). AreShortIndexes n.indexes) same
    (record { each = both_short c.indexes s.0.indexes h.each made.each; few = omega (arith, long, few, length-append c.indexes s.0.indexes) })

with_new_index_short : (c next : Collection) (n : NewIndex) → IsShortNewIndex n → AreShortIndexes c.indexes → with_new_index c n ≡ Ok next
    → AreShortIndexes next.indexes
with_new_index_short c next n short h e = by (is_there c.indexes n) (is_in_conflict c.indexes n) (nat_le 16 (length c.indexes)) refl e
  where
    new_short : IsShortIndex (defined (unused_index c.indexes) n)
    new_short = record { short = short.short; few = short.few; paths = short.paths }

    by : (there conflict full : Bool) → nat_le 16 (length c.indexes) ≡ full
        → (if there then Ok c
        else unless conflict refusals.IndexOptionsConflict (unless full refusals.TooMany (with_index c (defined (unused_index c.indexes) n)))) ≡ Ok next
        → AreShortIndexes next.indexes
    by true conflict full is f = let same : c ≡ next = cc in subst (λ (m : Collection). AreShortIndexes m.indexes) same h
    by false true full is f = absurd cc
    by false false true is f = absurd cc
    by false false false is f =
        let few : length c.indexes < 16 = grind (arith, nat_tests, is) in
        with_index_short c next (defined (unused_index c.indexes) n) new_short h few f

pub with_new_indexes_short : (c next : Collection) (ns : List NewIndex) → All IsShortNewIndex ns → AreShortIndexes c.indexes → with_new_indexes c ns ≡ Ok next
    → AreShortIndexes next.indexes
with_new_indexes_short c next [] short h e = let same : c ≡ next = cc in subst (λ (m : Collection). AreShortIndexes m.indexes) same h
with_new_indexes_short c next (n ∷ ns) short h e =
    let s = step_of (with_new_index c n) (λ mid. with_new_indexes mid ns) next e in
    with_new_indexes_short s.0 next ns (All-tail IsShortNewIndex n ns short) (with_new_index_short c s.0 n (All-head IsShortNewIndex n ns short) h s.1) s.2
