-- Documents that an index gives in the order of a sort are the first ones in that order.
use Rattle.std.proofs.Common.{◌≡◌, ℕ, zero, suc, ◌<◌, ◌≤◌, Bool, true, List, [], ◌∷◌, ◌++◌, length, map, take, Option, Some, refl, sym, ap, subst}
use Rattle.std.proofs.Common.{◌∙◌, arith, append_assoc, length-append}
use Rattle.std.specs.Prelude.{Contains, unwrap_or}
use Rattle.std.specs.List.{AllByRecursion, filter}
use Rattle.std.proofs.lemmas.List.{append-nil, length-take, take_all}
use Rattle.std.proofs.Math.Seq.{take-append_seam}
use Rattle.bson.specs.Tree.{Pairs}
use Rattle.filter.specs.Condition.{Conditions}
use Rattle.filter.specs.Matches.{matches}
use Rattle.sort.specs.Sort.{SortField, order}
use Rattle.value_order.specs.Order.{bytes_cmp}
use Rattle.index.specs.Definition.{Definition}
use Rattle.entry_model.specs.LawfulState.{IsKept, IsLawfulState}
use Rattle.entry_model.specs.State.{Collection, key_of}
use Rattle.entry_model.specs.StateReads.{find_document}
use Rattle.entries.specs.declared.catalogue_reading.Catalogued.{Catalogued}
use Rattle.entry_model.proofs.FoundLawLemmas.{found_collection}
use Rattle.collections.specs.IndexTexts.{AreFirstTexts, Indexed, IsNumberedIndex}
use Rattle.planner.specs.FirstIds.{AreAllOf, AreFirstReadFrom, LeadToFirst}
use Rattle.planner.specs.FoundIds.{ids_of}
use Rattle.planner.specs.IdLaws.{AreIdTexts, found_by, with_found}
use Rattle.planner.specs.KeyRange.{IsSpellable}
use Rattle.planner.specs.KeySpan.{first_key, last_key}
use Rattle.plan_model.specs.Plan.{Range, fields_of, range_in}
use Rattle.planner.proofs.AnswerLemmas.{kept_are_noted}
use Rattle.planner.proofs.FirstIdLemmas.{first_ids_lead}
use Rattle.planner.proofs.RisingLemmas.{pairs_of}
use Rattle.asked_documents.specs.Asking.{IsAsked}
use Rattle.index.specs.View.{texts_of}
use Rattle.queries.specs.declared.by_order.FirstIds.{FirstIds}
use Rattle.candidate_ids.specs.ByIndex.{IsRangeOf}
use Rattle.queries.specs.ByOrder.{AreFirstIds, LeadInOrder}
use Rattle.queries.specs.IndexOrder.{IsOrderOf}
use Rattle.queries.specs.declared.index_order.IndexOrder.{IndexOrder}
use Rattle.candidate_ids.proofs.ByIndexLemmas.{told}
use Rattle.walks.proofs.LookingUpLemmas.{IsTold, found_first, one_at_most}
use Rattle.walks.proofs.OrderedBatchLemmas.{order-length, texts_up}
use Rattle.asked_documents.proofs.ReadingLemmas.{IsOther}

-- ---- documents that are found by their `_id`s

found_back : (ds es : List Pairs) → AllByRecursion (λ d. find_document ds (key_of d) ≡ Some d) es → found_by ds (map key_of es) ≡ es
found_back ds [] h = refl
found_back ds (e ∷ es) h = ap (λ (o : Option Pairs). with_found o (found_by ds (map key_of es))) h.0 ∙ ap (λ (xs : List Pairs). e ∷ xs) (found_back ds es h.1)

-- ---- what an index in the order of the sort tells of the collection that is asked

module _ (rs : Conditions) (sort : List SortField) (home : Catalogued) (r : Range) (is : IsRangeOf rs sort home.indexes.items r) (sorted : r.is_sorted ≡ true)
    (now : List Collection) (state : IsLawfulState now) (c : Collection) (asked : IsAsked home now c) where
  kept : IsKept c
  kept = (found_collection now c.name c state asked.numbered.found).0

  listed : Contains c.indexes is.definition
  listed = subst (λ (ds : List Definition). Contains ds is.definition) (sym asked.indexed) is.there

  abbrev index_at : Indexed
  index_at = record { collection = c; definition = is.definition }

  leads_so : (are_all : Bool) (ids : List (List ℕ)) → AreFirstIds r index_at are_all ids → LeadInOrder home.number rs sort are_all ids now c
  leads_so are_all ids h = record {
    numbered = asked.numbered;
    ids = map key_of lead.documents;
    told = subst (λ (ts : List (List ℕ)). AreIdTexts ts (map key_of lead.documents)) (sym (h.found ∙ lead.spelled))
        (told c.documents lead.documents kept.storable lead.found);
    first = subst (λ (xs : List Pairs). filter (matches rs) xs ≡ take (length (filter (matches rs) xs)) (order sort (filter (matches rs) c.documents)))
        (sym back) lead.first;
    all = λ e.
        let whole : filter (matches rs) lead.documents ≡ order sort (filter (matches rs) c.documents) = lead.whole (all_read (h.first.all e)) in
        omega (arith, ap length whole, order-length sort (filter (matches rs) c.documents), ap (λ (xs : List Pairs). length (filter (matches rs) xs)) back);
  }
    where
      i : Definition
      i = is.definition

      read : AreFirstReadFrom i (range_in rs sort (Some i)) c.documents h.texts
      read = subst (λ (x : Range). AreFirstReadFrom i x c.documents h.texts) is.given
          (record { rise = pairs_of bytes_cmp h.texts (texts_up h.texts h.first.rise); given = h.first.given; above = h.first.above })

      all_read : AreAllOf i r c.documents h.texts → AreAllOf i (range_in rs sort (Some i)) c.documents h.texts
      all_read all = subst (λ (x : Range). AreAllOf i x c.documents h.texts) is.given all

      lead : LeadToFirst rs sort c.documents (AreAllOf i (range_in rs sort (Some i)) c.documents h.texts) (ids_of i.fields h.texts)
      lead = first_ids_lead rs sort i c.documents h.texts (subst (λ (x : Range). x.is_sorted ≡ true) is.given sorted) (kept_are_noted c i kept listed)
          (subst IsSpellable is.given is.spellable) kept.storable kept.rising read

      back : found_by c.documents (map key_of lead.documents) ≡ lead.documents
      back = found_back c.documents lead.documents lead.found

  pub asked_in_order : (index : Definition) → r.index ≡ Some index
      → IsOther (IsNumberedIndex home.number index.number) (λ now at (y : FirstIds). at.definition ≡ index → AreFirstIds r at y.are_all (texts_of y.ids.items))
      (λ now c (y : FirstIds). LeadInOrder home.number rs sort y.are_all (texts_of y.ids.items) now c) now c
  asked_in_order index named = record {
    other = index_at;
    was = record { numbered = asked.numbered; listed = listed; same = ap (λ (d : Definition). d.number) same };
    right = λ y h. leads_so y.are_all (texts_of y.ids.items) (h same);
  }
    where
      same : is.definition ≡ index
      same = ap (λ (o : Option Definition). unwrap_or o is.definition) (sym is.index ∙ named)

-- the order of the index that the planner chose
pub order_chosen : (rs : Conditions) (sort : List SortField) (indexes : List Definition) (r : Range) (o : IndexOrder) → IsRangeOf rs sort indexes r
    → r.index ≡ Some o.index.now → r.is_sorted ≡ true → o.first.items ≡ first_key (fields_of r.index) r → o.last.items ≡ last_key (fields_of r.index) r
    → IsOrderOf rs sort indexes o
order_chosen rs sort indexes r o is named sorted begins ends =
    let same : is.definition ≡ o.index.now = ap (λ (x : Option Definition). unwrap_or x is.definition) (sym is.index ∙ named) in
    let given : r ≡ range_in rs sort (Some o.index.now) = is.given ∙ ap (λ (d : Definition). range_in rs sort (Some d)) same in
    let fields : fields_of r.index ≡ o.index.now.fields = ap fields_of named in
    record {
      there = subst (λ (d : Definition). Contains indexes d) same is.there;
      in_order = record {
        sorted = subst (λ (x : Range). x.is_sorted ≡ true) given sorted;
        spellable = subst IsSpellable given is.spellable;
        ends = ends ∙ (λ k. last_key (fields k) (given k));
      };
      begins = begins ∙ (λ k. first_key (fields k) (given k));
    }

-- the entries that were read between the ends of the range
pub first_in_span : (r : Range) (index : Definition) (at : Indexed) (first last : List ℕ) (are_all : Bool) (texts ids : List (List ℕ)) → r.index ≡ Some index
    → at.definition ≡ index
    → first ≡ first_key (fields_of r.index) r → last ≡ last_key (fields_of r.index) r → AreFirstTexts first last at are_all texts
    → ids ≡ ids_of index.fields texts → AreFirstIds r at are_all ids
first_in_span r index at first last are_all texts ids named same begins ends between found = record {
  texts = texts;
  first =
      let fields : fields_of r.index ≡ at.definition.fields = ap fields_of named ∙ ap (λ (d : Definition). d.fields) (sym same) in
      let from : first ≡ first_key at.definition.fields r = begins ∙ ap (λ fs. first_key fs r) fields in
      let to : last ≡ last_key at.definition.fields r = ends ∙ ap (λ fs. last_key fs r) fields in
      subst (λ (f : List ℕ). AreFirstTexts f (last_key at.definition.fields r) at are_all texts) from
      (subst (λ (l : List ℕ). AreFirstTexts first l at are_all texts) to between);
  found = found ∙ ap (λ (d : Definition). ids_of d.fields texts) (sym same);
}

-- ---- documents that are looked up in that order

abbrev pub told_in_order : (number : ℕ) (rs : Conditions) (sort : List SortField) (are_all : Bool) (texts : List (List ℕ)) (now : List Collection)
    (c : Collection) → LeadInOrder number rs sort are_all texts now c → IsTold number texts now c
told_in_order number rs sort are_all texts now c asked = record { numbered = asked.numbered; ids = asked.ids; told = asked.told }

take_less : {X : Type 0} (m n : ℕ) (xs : List X) → m ≤ n → take m (take n xs) ≡ take m xs
take_less zero n xs le = refl
take_less (suc m) zero xs le = absurd (omega (arith, le))
take_less (suc m) (suc n) [] le = refl
take_less {X} (suc m) (suc n) (x ∷ xs) le = ap (λ (ys : List X). x ∷ ys) (take_less m n xs (omega (arith, le)))

module _ (rs : Conditions) (sort : List SortField) (are_all : Bool) (most : ℕ) where
  -- What was found is the front of the first documents in the order, and with what is left to look up, as far as it matches, all of these.
  pub record AreInFront (now ds left : List Pairs) : Type 0 where
    pub front : List Pairs
    pub is : front ≡ take (length front) (order sort (filter (matches rs) ds))
    pub all : are_all ≡ true → length (filter (matches rs) ds) ≤ length front
    pub few : length now ≤ most
    pub same : take most (now ++ filter (matches rs) left) ≡ take most front

  pub none_in_front : (number : ℕ) (texts : List (List ℕ)) (now : List Collection) (c : Collection) (asked : LeadInOrder number rs sort are_all texts now c)
      → AreInFront [] c.documents (found_by c.documents asked.ids)
  none_in_front number texts now c asked = record
      { front = filter (matches rs) (found_by c.documents asked.ids); is = asked.first; all = asked.all; few = omega arith; same = refl }

  pub one_in_front : (now next : List Pairs) → length now < most → (ds more : List Pairs) (o : Option Pairs)
      → next ≡ now ++ filter (matches rs) (with_found o []) → AreInFront now ds (with_found o more) → AreInFront next ds more
  one_in_front now next room ds more o made h =
      let p = matches rs in
      let one = filter p (with_found o []) in
      record {
        front = h.front;
        is = h.is;
        all = h.all;
        few = omega (arith, ap length made, length-append now one, one_at_most p o, room);
        same =
            ap (λ (ys : List Pairs). take most (ys ++ filter p more)) made
            ∙ ap (take most) (append_assoc now one (filter p more) ∙ ap (λ (ys : List Pairs). now ++ ys) (sym (found_first p o more))) ∙ h.same;
      }

  -- as many as are asked for
  pub full_front : (now ds left : List Pairs) → most ≤ length now → AreInFront now ds left → now ≡ take most (order sort (filter (matches rs) ds))
  full_front now ds left full h =
      let p = matches rs in
      let count : length now ≡ most = omega (arith, full, h.few) in
      let found : now ≡ take most h.front = sym (ap (λ (n : ℕ). take n (now ++ filter p left)) (sym count) ∙ take-append_seam now (filter p left)) ∙ h.same in
      let enough : most ≤ length h.front = omega (arith, ap length found, length-take most h.front, count) in
      found ∙ ap (take most) h.is ∙ take_less most (length h.front) (order sort (filter p ds)) enough

  -- or all of them
  pub whole_front : (now ds : List Pairs) → are_all ≡ true → AreInFront now ds [] → now ≡ take most (order sort (filter (matches rs) ds))
  whole_front now ds whole h =
      let p = matches rs in
      let all : h.front ≡ order sort (filter p ds) =
      h.is ∙ take_all (length h.front) (order sort (filter p ds)) (omega (arith, h.all whole, order-length sort (filter p ds))) in
      sym (take_all most now h.few) ∙ ap (take most) (sym (append-nil now)) ∙ h.same ∙ ap (take most) all
