-- What the entries of an index in the range of a filter lead to.
use Rattle.std.proofs.Common.{◌≡◌, ℕ, Bool, true, List, [], ◌∷◌, map, Option, Some, None, inl, inr, refl, sym, ap, subst, ◌∙◌}
use Rattle.std.specs.Global.{Vec}
use Rattle.std.specs.Borrow.{Bor}
use Rattle.std.specs.Prelude.{All, Contains, IfSome, is_some, unwrap_or}
use Rattle.std.specs.List.{AllByRecursion, AllPairs, filter}
use Rattle.std.specs.List.Sorted.{IsStrictlySortedBy}
use Rattle.std.specs.declared.cmp.Ordering.TheVariants.{Less}
use Rattle.bson.specs.Tree.{Tree, Pairs}
use Rattle.filter.specs.Condition.{Conditions}
use Rattle.filter.specs.Matches.{matches}
use Rattle.sort.specs.Sort.{SortField}
use Rattle.value_order.specs.KeyText.{tree_text}
use Rattle.value_order.specs.Order.{bytes_cmp}
use Rattle.index.specs.Definition.{Definition}
use Rattle.index.specs.KeyTexts.{ascending_set}
use Rattle.entry_model.specs.LawfulState.{IsKept, IsLawfulState, IsStorable}
use Rattle.entry_model.specs.State.{Collection, key_of}
use Rattle.entry_model.specs.StateReads.{find_document}
use Rattle.index.specs.View.{texts_of}
use Rattle.entries.specs.declared.catalogue_reading.Catalogued.{Catalogued}
use Rattle.entry_model.proofs.LawfulParts.{id_is_key}
use Rattle.entry_model.proofs.FoundLawLemmas.{found_collection}
use Rattle.entry_model.proofs.KeyOfDocument.{among_test, test_among}
use Rattle.entry_model.proofs.MemberLemmas.{Among, among_image, among_of, contains_of, of_all}
use Rattle.entry_model.proofs.DocumentPlaces.{document_some}
use Rattle.index.proofs.SetLemmas.{set_among, set_sorted}
use Rattle.collections.specs.IndexTexts.{AreTextsBetween, Indexed, IsNumberedIndex}
use Rattle.collections.specs.Lookups.{IsNumbered}
use Rattle.planner.specs.FoundIds.{LeadToMatching, ids_in, ids_of}
use Rattle.planner.specs.IdLaws.{AreIdTexts}
use Rattle.planner.specs.KeyRange.{IsSpellable}
use Rattle.planner.specs.KeySpan.{first_key, last_key}
use Rattle.plan_model.specs.Plan.{Range, by_index, choose, fields_of, range_in}
use Rattle.planner.specs.RangeReading.{AreReadFrom}
use Rattle.planner.specs.View.{index_of, plan_of, range_of}
use Rattle.planner.specs.declared.plan.Plan.{Plan as Chosen}
use Rattle.planner.specs.declared.plan.Plan.TheVariants as plans
use Rattle.planner.specs.declared.range.IndexRange.{IndexRange}
use Rattle.planner.proofs.ChosenLemmas.{chosen_range}
use Rattle.planner.proofs.AnswerLemmas.{kept_are_noted}
use Rattle.planner.proofs.FoundIdLemmas.{ids_lead_to_matching}
use Rattle.planner.proofs.RisingLemmas.{Below, Rises, among_filter, filter_among, pairs_of}
use Rattle.asked_documents.specs.Asking.{IsAsked}
use Rattle.asked_documents.specs.ById.{AreIdsOf, IsIdText, TellOf}
use Rattle.candidate_ids.specs.ByIndex.{AreIdsInRange, IsRangeOf}
use Rattle.asked_documents.proofs.ReadingLemmas.{IsOther}

-- ---- texts that ascend

below_all : (k : List ℕ) (ks : List (List ℕ)) → AllByRecursion (λ y. bytes_cmp k y ≡ Less) ks → Below bytes_cmp k ks
below_all k [] h = tt
below_all k (x ∷ ks) h = (h.0, below_all k ks h.1)

pub rise : (ks : List (List ℕ)) → IsStrictlySortedBy bytes_cmp ks → Rises bytes_cmp ks
unfolding IsStrictlySortedBy
rise [] h = tt
rise (k ∷ ks) h = (below_all k ks h.0, rise ks h.1)

-- ---- the documents to which they lead

pub told : (ds es : List Pairs) → All IsStorable ds → AllByRecursion (λ d. find_document ds (key_of d) ≡ Some d) es
    → AreIdTexts (map (λ d. tree_text (key_of d)) es) (map key_of es)
told ds [] all h = tt
told ds (e ∷ es) all h = (refl, id_is_key e (of_all IsStorable ds e all (document_some ds (key_of e) e h.0).0), told ds es all h.1)

ids_leading : (rs : Conditions) (number : ℕ) (now : List Collection) (c : Collection) (ids : List (List ℕ)) → IsNumbered now c number → IsKept c
    → AllPairs (λ s t. bytes_cmp s t ≡ Less) ids → LeadToMatching rs c.documents ids → AreIdsOf number (matches rs) ids now c
ids_leading rs number now c ids numbered kept up lead = record {
  numbered = numbered;
  ids = map key_of lead.documents;
  told = subst (λ (ts : List (List ℕ)). AreIdTexts ts (map key_of lead.documents)) (sym lead.spelled)
      (told c.documents lead.documents kept.storable lead.found);
  ascending = up;
  all = λ d there passes.
      let g : Among d (filter (matches rs) lead.documents) =
      subst (Among d) (sym lead.selects) (among_filter (matches rs) d c.documents (among_of c.documents d there) passes) in
      let h : Among d lead.documents = (filter_among (matches rs) d lead.documents g).0 in
      contains_of ids (tree_text (key_of d))
      (subst (Among (tree_text (key_of d))) (sym lead.spelled) (among_image (λ (e : Pairs). tree_text (key_of e)) d lead.documents h));
}

id_texts : (texts : List (List ℕ)) (ids : List Tree) → AreIdTexts texts ids → AllByRecursion IsIdText texts
id_texts [] [] told = tt
id_texts [] (id ∷ ids) told = absurd told
id_texts (text ∷ texts) [] told = absurd told
id_texts (text ∷ texts) (id ∷ ids) told = (record { id = id; spelled = told.0; key = told.1 }, id_texts texts ids told.2)

each_of : {X : Type 0} (P : X → Type 0) (xs : List X) (x : X) → AllByRecursion P xs → Among x xs → P x
each_of P [] x h g = absurd g
each_of P (y ∷ ys) x h (inl e) = subst P (sym e) h.0
each_of P (y ∷ ys) x h (inr g) = each_of P ys x h.1 g

all_of : {X : Type 0} (P : X → Type 0) (xs : List X) → ((x : X) → Among x xs → P x) → AllByRecursion P xs
all_of P [] each = tt
all_of P (x ∷ xs) each = (each x (inl refl), all_of P xs (λ y g. each y (inr g)))

-- texts tell what the ascending set of them does
set_tells : (number : ℕ) (passes : Pairs → Bool) (ids : List (List ℕ)) (now : List Collection) (c : Collection)
    → AreIdsOf number passes (ascending_set ids) now c → TellOf c passes [] ids
set_tells number passes ids now c lead = record {
  put = record {
    texts = λ h. all_of IsIdText ids (λ text g. each_of IsIdText (ascending_set ids) text (id_texts (ascending_set ids) lead.ids lead.told)
        (test_among (ascending_set ids) text (set_among ids text ∙ among_test ids text g)));
    kept = λ text h. absurd cc;
  };
  tells = λ d has passing.
      let text = tree_text (key_of d) in
      sym (set_among ids text) ∙ among_test (ascending_set ids) text (among_of (ascending_set ids) text (lead.all d has.0 passing));
}

-- ---- the range of a filter in an index of the collection that is asked

module _ (rs : Conditions) (home : Catalogued) (r : Range) (is : IsRangeOf rs [] home.indexes.items r) (now : List Collection) (state : IsLawfulState now)
    (c : Collection) (asked : IsAsked home now c) where
  kept : IsKept c
  kept = (found_collection now c.name c state asked.numbered.found).0

  listed : Contains c.indexes is.definition
  listed = subst (λ (ds : List Definition). Contains ds is.definition) (sym asked.indexed) is.there

  abbrev index_at : Indexed
  index_at = record { collection = c; definition = is.definition }

  found_in_range : (ids : List (List ℕ)) → AreIdsInRange r index_at ids → TellOf c (matches rs) [] ids
  found_in_range ids h =
      let i = is.definition in
      let read : AreReadFrom i (range_in rs [] (Some i)) c.documents h.texts =
      subst (λ (x : Range). AreReadFrom i x c.documents h.texts) is.given (record { given = h.between.given; all = h.between.all }) in
      let lead : LeadToMatching rs c.documents (ids_in i.fields h.texts) =
      ids_lead_to_matching rs [] i c.documents h.texts (kept_are_noted c i kept listed)
      (subst IsSpellable is.given is.spellable) kept.storable kept.rising read in
      subst (TellOf c (matches rs) []) (sym h.found) (set_tells home.number (matches rs) (ids_of i.fields h.texts) now c
      (ids_leading rs home.number now c (ids_in i.fields h.texts) asked.numbered kept
      (pairs_of bytes_cmp (ids_in i.fields h.texts) (rise (ids_in i.fields h.texts) (set_sorted (ids_of i.fields h.texts)))) lead))

  pub asked_in_index : (index : Definition) → r.index ≡ Some index → IsOther (IsNumberedIndex home.number index.number)
      (λ now at (found : Option (Vec (Vec ℕ))). at.definition ≡ index → IfSome found (λ ids. AreIdsInRange r at (texts_of ids.items)))
      (λ now c (found : Option (Vec (Vec ℕ))). IfSome found (λ ids. TellOf c (matches rs) [] (texts_of ids.items))) now c
  asked_in_index index named = record {
    other = index_at;
    was = record { numbered = asked.numbered; listed = listed; same = ap (λ (d : Definition). d.number) same };
    right = by_found;
  }
    where
      same : is.definition ≡ index
      same = ap (λ (o : Option Definition). unwrap_or o is.definition) (sym is.index ∙ named)

      by_found : (found : Option (Vec (Vec ℕ))) → (is.definition ≡ index → IfSome found (λ ids. AreIdsInRange r index_at (texts_of ids.items)))
          → IfSome found (λ ids. TellOf c (matches rs) [] (texts_of ids.items))
      by_found None h = tt
      by_found (Some ids) h = found_in_range (texts_of ids.items) (h same)

-- ---- the range that the planner chose

pub range_chosen : (rs : Conditions) (sort : List SortField) (indexes : List Definition) (plan : Chosen) (range : IndexRange)
    → plan_of plan ≡ choose rs sort indexes → plan ≡ plans.Index range → is_some range.index ≡ true → IsSpellable (range_of range)
    → IsRangeOf rs sort indexes (range_of range)
range_chosen rs sort indexes plan range chosen is named spelled = at range.index refl named
  where
    by_range : choose rs sort indexes ≡ by_index (range_of range)
    by_range = sym chosen ∙ ap plan_of is

    at : (o : Option (Bor Definition)) → range.index ≡ o → is_some o ≡ true → IsRangeOf rs sort indexes (range_of range)
    at None e some = absurd cc
    at (Some spec) e some =
        let index : (range_of range).index ≡ Some spec.now = ap index_of e in
        let given = chosen_range rs sort indexes (range_of range) spec.now by_range index in
        record { definition = spec.now; index = index; there = given.there; given = given.given; spellable = spelled }

-- the entries that were read between the ends of the range
pub in_range : (r : Range) (index : Definition) (at : Indexed) (first last : List ℕ) (texts ids : List (List ℕ)) → r.index ≡ Some index → at.definition ≡ index
    → first ≡ first_key (fields_of r.index) r → last ≡ last_key (fields_of r.index) r → AreTextsBetween first last at texts → ids ≡ ids_of index.fields texts
    → AreIdsInRange r at ids
in_range r index at first last texts ids named same begins ends between found = record {
  texts = texts;
  between =
      let fields : fields_of r.index ≡ at.definition.fields = ap fields_of named ∙ ap (λ (d : Definition). d.fields) (sym same) in
      let from : first ≡ first_key at.definition.fields r = begins ∙ ap (λ fs. first_key fs r) fields in
      let to : last ≡ last_key at.definition.fields r = ends ∙ ap (λ fs. last_key fs r) fields in
      subst (λ (f : List ℕ). AreTextsBetween f (last_key at.definition.fields r) at texts) from
      (subst (λ (l : List ℕ). AreTextsBetween first l at texts) to between);
  found = found ∙ ap (λ (d : Definition). ids_of d.fields texts) (sym same);
}
