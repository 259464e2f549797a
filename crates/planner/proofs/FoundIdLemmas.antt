-- Of the documents to which the entries in a range lead, a filter selects what it selects of all.
use Rattle.std.proofs.Common.{◌≡◌, ℕ, true, List, [], ◌∷◌, map, Option, Some, None, inl, inr, refl, sym, ap, subst, ◌∙◌}
use Rattle.std.specs.Prelude.{if◌then◌else◌, All, Contains}
use Rattle.std.specs.Cmp.{IsTotalOrder, on_total}
use Rattle.std.specs.List.{AllByRecursion, filter}
use Rattle.std.specs.List.Sorted.{IsStrictlySortedBy}
use Rattle.std.specs.Option.{option_to_list}
use Rattle.std.specs.Ordering.{is_eq, on, ordering_reverse}
use Rattle.std.specs.declared.cmp.Ordering.{Ordering}
use Rattle.std.specs.declared.cmp.Ordering.TheVariants.{Less, Equal}
use Rattle.std.proofs.lemmas.Cmp.{tied_itself}
use Rattle.bson.specs.Tree.{Pairs}
use Rattle.value_order.specs.KeyText.{tree_text}
use Rattle.value_order.specs.Order.{bytes_cmp, compare, value}
use Rattle.value_order.specs.TotalLaws.{compare_total}
use Rattle.value_order.specs.declared.texts.Direction.TheVariants.{Ascending}
use Rattle.value_order.proofs.KeyLaws.{texts_order}
use Rattle.filter.specs.Matches.{matches}
use Rattle.index.specs.Definition.{Definition}
use Rattle.index.specs.KeyTexts.{ascending_set}
use Rattle.entry_model.specs.LawfulState.{IsStorable, IsRising}
use Rattle.entry_model.specs.State.{key_of}
use Rattle.entry_model.specs.StateReads.{find_document}
use Rattle.entry_model.proofs.LawfulParts.{id_is_key, same_id}
use Rattle.entry_model.proofs.KeyOfDocument.{among_test, test_among}
use Rattle.entry_model.proofs.MemberLemmas.{Among, among_each, among_flat, among_map, among_of, contains_of, of_all, of_pairs}
use Rattle.index.proofs.SetLemmas.{set_among, set_sorted}
use Rattle.planner.specs.FoundIds.{IdsLeadToMatching, ids_in, ids_of}
use Rattle.planner.specs.KeyScan.{id_text}
use Rattle.planner.proofs.RangeReadingLemmas.{range_finds_matching}
use Rattle.planner.proofs.RisingLemmas.{Below, Rises, among_filter, below_each, filter_among, one_rising, rises_filter, rises_of}

abbrev pub id_of : Pairs → List ℕ
id_of d = tree_text (key_of d)

by_id : IsTotalOrder (on key_of compare)
by_id = on_total key_of compare_total

not_less : (o : Ordering) → o ≡ Less → o ≡ Equal → ⊥
not_less o e f = let g : Less ≡ Equal = sym e ∙ f in cc

-- ---- members of the set

among_set : (ks : List (List ℕ)) (k : List ℕ) → Among k ks → Among k (ascending_set ks)
among_set ks k h = test_among (ascending_set ks) k (set_among ks k ∙ among_test ks k h)

pub set_members : (ks : List (List ℕ)) (k : List ℕ) → Among k (ascending_set ks) → Among k ks
set_members ks k h = test_among ks k (sym (set_among ks k) ∙ among_test (ascending_set ks) k h)

-- the text in which an `_id` is found
text_of : (i : Definition) (texts : List (List ℕ)) (id : List ℕ) → Among id (ids_of i.fields texts)
    → (text : List ℕ) × Among text texts × (id_text i.fields text ≡ Some id)
text_of i texts id h =
    let t = among_flat (λ (text : List ℕ). option_to_list (id_text i.fields text)) id texts h in
    (t.0, t.1, only (id_text i.fields t.0) t.2)
  where
    only : (o : Option (List ℕ)) → Among id (option_to_list o) → o ≡ Some id
    only None h = absurd h
    only (Some x) (inl e) = ap Some (sym e)
    only (Some x) (inr g) = absurd g

id_among : (i : Definition) (texts : List (List ℕ)) (text id : List ℕ) → Among text texts → id_text i.fields text ≡ Some id → Among id (ids_of i.fields texts)
id_among i texts text id h e =
    among_each (λ (t : List ℕ). option_to_list (id_text i.fields t)) id text texts h
    (subst (λ (o : Option (List ℕ)). Among id (option_to_list o)) (sym e) (inl refl))

-- ---- documents by their `_id`s

found_there : (d : Pairs) (ds : List Pairs) → Rises (on key_of compare) ds → Among d ds → find_document ds (key_of d) ≡ Some d
found_there d [] up h = absurd h
found_there d (x ∷ ds) up (inl e) =
    ap (λ (o : Ordering). if is_eq o then Some x else find_document ds (key_of d))
    (ap (λ (y : Pairs). compare (key_of d) (key_of y)) (sym e) ∙ tied_itself compare_total (key_of d)) ∙ ap Some (sym e)
found_there d (x ∷ ds) up (inr g) =
    ap (λ (o : Ordering). if is_eq o then Some x else find_document ds (key_of d))
    (compare_total.antisymm (key_of d) (key_of x) ∙ ap ordering_reverse (below_each (on key_of compare) x d ds up.0 g))
    ∙ found_there d ds up.1 g

pub same_document : (ds : List Pairs) (d e : Pairs) → All IsStorable ds → IsRising ds → Among d ds → Among e ds → id_of d ≡ id_of e → d ≡ e
same_document ds d e all up there here same =
    let hd : IsStorable d = of_all IsStorable ds d all there in
    let he : IsStorable e = of_all IsStorable ds e all here in
    let tied : compare (key_of d) (key_of e) ≡ Equal = same_id d e hd he same in
    let back : compare (key_of e) (key_of d) ≡ Equal = same_id e d he hd (sym same) in
    elim (of_pairs (λ x y. compare (key_of x) (key_of y) ≡ Less) ds d e up there here) [
      | inl one ↦ one
      | inr differ ↦ elim differ [
        | inl less ↦ absurd (not_less (compare (key_of d) (key_of e)) less tied)
        | inr less ↦ absurd (not_less (compare (key_of e) (key_of d)) less back)
      ]
    ]

-- the documents of these `_id`s
pub record AreOf (ds : List Pairs) (ids : List (List ℕ)) : Type 0 where
  pub documents : List Pairs
  pub spelled : ids ≡ map id_of documents
  pub stored : (d : Pairs) → Among d documents → Among d ds

documents_of : (ds : List Pairs) (ids : List (List ℕ)) → ((id : List ℕ) → Among id ids → (d : Pairs) × Among d ds × (id ≡ id_of d)) → AreOf ds ids
documents_of ds [] each = record { documents = []; spelled = refl; stored = λ d h. absurd h }
documents_of ds (id ∷ ids) each =
    let first = each id (inl refl) in
    let later : AreOf ds ids = documents_of ds ids (λ k h. each k (inr h)) in
    record {
      documents = first.0 ∷ later.documents;
      spelled = λ i. first.2 i ∷ later.spelled i;
      stored = λ d h. one first.0 first.1 later d h;
    }
  where
    one : (e : Pairs) → Among e ds → (later : AreOf ds ids) → (d : Pairs) → Among d (e ∷ later.documents) → Among d ds
    one e there later d (inl same) = subst (λ (x : Pairs). Among x ds) (sym same) there
    one e there later d (inr h) = later.stored d h

pub each_found : (ds es : List Pairs) → Rises (on key_of compare) ds → ((d : Pairs) → Among d es → Among d ds)
    → AllByRecursion (λ d. find_document ds (key_of d) ≡ Some d) es
each_found ds [] up within = tt
each_found ds (e ∷ es) up within = (found_there e ds up (within e (inl refl)), each_found ds es up (λ d h. within d (inr h)))

-- they rise as their texts do
below_ids : (d : Pairs) (es : List Pairs) → IsStorable d → ((e : Pairs) → Among e es → IsStorable e)
    → AllByRecursion (λ k. bytes_cmp (id_of d) k ≡ Less) (map id_of es) → Below (on key_of compare) d es
below_ids d [] hd all h = tt
below_ids d (e ∷ es) hd all h = (
  sym (texts_order Ascending (value (key_of d)) (value (key_of e)) (id_is_key d hd) (id_is_key e (all e (inl refl)))) ∙ h.0,
  below_ids d es hd (λ x g. all x (inr g)) h.1,
)

documents_rise : (es : List Pairs) → ((e : Pairs) → Among e es → IsStorable e) → IsStrictlySortedBy bytes_cmp (map id_of es) → Rises (on key_of compare) es
unfolding IsStrictlySortedBy
documents_rise [] all h = tt
documents_rise (e ∷ es) all h = (below_ids e es (all e (inl refl)) (λ x g. all x (inr g)) h.0, documents_rise es (λ x g. all x (inr g)) h.1)

-- ---- the law

pub ids_lead_to_matching : IdsLeadToMatching
ids_lead_to_matching rs sort i ds texts noted spelled storable rising read = record {
  documents = of.documents;
  spelled = of.spelled;
  found = each_found ds of.documents up of.stored;
  selects = one_rising (on key_of compare) by_id (filter (matches rs) of.documents) (filter (matches rs) ds)
      (rises_filter (matches rs) (on key_of compare) of.documents documents_up) (rises_filter (matches rs) (on key_of compare) ds up) to from;
}
  where
    leads : ((text : List ℕ) → Contains texts text → (d : Pairs) × Contains ds d × (id_text i.fields text ≡ Some (id_of d)))
        × ((d : Pairs) → Contains ds d → matches rs d ≡ true → (text : List ℕ) × Contains texts text × (id_text i.fields text ≡ Some (id_of d)))
    leads = range_finds_matching rs sort i ds texts noted spelled storable read

    up : Rises (on key_of compare) ds
    up = rises_of (on key_of compare) ds rising

    same_some : (a b : List ℕ) → Some a ≡ Some b → a ≡ b
    same_some a b e = cc

    document_there : (id : List ℕ) → Among id (ids_in i.fields texts) → (d : Pairs) × Among d ds × (id ≡ id_of d)
    document_there id h =
        let t = text_of i texts id (set_members (ids_of i.fields texts) id h) in
        let d = leads.0 t.0 (contains_of texts t.0 t.1) in
        (d.0, among_of ds d.0 d.1, same_some id (id_of d.0) (sym t.2 ∙ d.2))

    of : AreOf ds (ids_in i.fields texts)
    of = documents_of ds (ids_in i.fields texts) document_there

    documents_up : Rises (on key_of compare) of.documents
    documents_up =
        documents_rise of.documents (λ d h. of_all IsStorable ds d storable (of.stored d h))
        (subst (λ (ids : List (List ℕ)). IsStrictlySortedBy bytes_cmp ids) of.spelled (set_sorted (ids_of i.fields texts)))

    to : (d : Pairs) → Among d (filter (matches rs) of.documents) → Among d (filter (matches rs) ds)
    to d h = let g = filter_among (matches rs) d of.documents h in among_filter (matches rs) d ds (of.stored d g.0) g.1

    from : (d : Pairs) → Among d (filter (matches rs) ds) → Among d (filter (matches rs) of.documents)
    from d h =
        let g = filter_among (matches rs) d ds h in
        let t = leads.1 d (contains_of ds d g.0) g.1 in
        let id : Among (id_of d) (ids_in i.fields texts) =
        among_set (ids_of i.fields texts) (id_of d) (id_among i texts t.0 (id_of d) (among_of texts t.0 t.1) t.2) in
        let e = among_map id_of (id_of d) of.documents (subst (λ (ids : List (List ℕ)). Among (id_of d) ids) of.spelled id) in
        let same : d ≡ e.0 = same_document ds d e.0 storable rising g.0 (of.stored e.0 e.1) e.2 in
        among_filter (matches rs) d of.documents (subst (λ (x : Pairs). Among x of.documents) (sym same) e.1) g.1
