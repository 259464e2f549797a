-- The first entries of an index in the order of a sort lead to the first documents of the answer.
use Rattle.std.proofs.Common.{◌≡◌, ◌⊎◌, ⊎_elim, ℕ, true, List, [], ◌∷◌, ◌++◌, map, Some, inl, inr, refl, sym, ap, subst, ◌∙◌}
use Rattle.std.specs.Prelude.{All, Contains}
use Rattle.std.specs.Int.{w32, to_be_bytes}
use Rattle.std.specs.List.{filter}
use Rattle.std.specs.Option.{option_to_list}
use Rattle.std.specs.Ordering.{on, ordering_then}
use Rattle.std.specs.declared.cmp.Ordering.{Ordering}
use Rattle.std.specs.declared.cmp.Ordering.TheVariants.{Less}
use Rattle.std.proofs.lemmas.Cmp.{nat_cmp_total, tied_itself}
use Rattle.bson.specs.Tree.{Pairs}
use Rattle.value_order.specs.Order.{Key, bytes_cmp, compare}
use Rattle.filter.specs.Condition.{Conditions}
use Rattle.filter.specs.Matches.{matches}
use Rattle.sort.specs.Sort.{SortField}
use Rattle.index.specs.Definition.{Definition}
use Rattle.index.specs.IndexKeys.{index_keys, is_multikey}
use Rattle.index.specs.KeyTexts.{encoded_keys, key_bytes}
use Rattle.entry_model.specs.LawfulState.{IsStorable}
use Rattle.entry_model.specs.State.{key_of}
use Rattle.entry_model.proofs.MemberLemmas.{Among, among_map, among_of, contains_of, of_all}
use Rattle.index.proofs.SpellableLaws.{keys_spellable}
use Rattle.planner.specs.AnswerLaws.{IsNotedFor, RisesInOrder, answer_cmp}
use Rattle.planner.specs.FirstIds.{FirstIdsLead}
use Rattle.planner.specs.FoundIds.{ids_of}
use Rattle.planner.specs.KeyRange.{has_key}
use Rattle.planner.specs.KeyScan.{id_text}
use Rattle.planner.specs.KeySpan.{first_key, last_key}
use Rattle.plan_model.specs.Plan.{is_multi, range_in}
use Rattle.planner.specs.RangeReading.{IsEntryText, LiesBetween}
use Rattle.planner.proofs.AnswerLemmas.{document_is_key, front_of_answer, sorts_to_answer}
use Rattle.planner.proofs.FoundIdLemmas.{each_found, id_of, same_document, set_members}
use Rattle.planner.proofs.KeyBytesLemmas.{has_bytes_behind}
use Rattle.planner.proofs.KeyRangeLemmas.{has_key_in_range}
use Rattle.planner.proofs.KeySpanLemmas.{spans_range}
use Rattle.planner.proofs.RangeReadingLemmas.{IsPassing, encoded_there, id_behind, passing}
use Rattle.planner.proofs.RisingLemmas.{Below, Rises, among_filter, filter_among, pairs_of, rises_filter, rises_of}
use Rattle.planner.proofs.SortedLemmas.{walks_in_order}

behind_front : (front x y : List ℕ) → bytes_cmp (front ++ x) (front ++ y) ≡ bytes_cmp x y
behind_front [] x y = refl
behind_front (b ∷ front) x y =
    ap (λ (o : Ordering). ordering_then o (bytes_cmp (front ++ x) (front ++ y))) (tied_itself nat_cmp_total b) ∙ behind_front front x y

-- the text of an entry of this document, by one of its lists of keys
record IsTextOf (i : Definition) (ds : List Pairs) (d : Pairs) (text : List ℕ) : Type 0 where
  stored : Among d ds
  keys : List Key
  there : Among keys (index_keys i.fields d)
  is : text ≡ key_bytes i.fields keys ++ id_of d

text_of : (i : Definition) (ds : List Pairs) (text : List ℕ) → IsEntryText ds i text → (d : Pairs) × IsTextOf i ds d text
text_of i ds text h =
    let key = among_map (key_bytes i.fields) h.1 (index_keys i.fields h.0)
    (set_members (map (key_bytes i.fields) (index_keys i.fields h.0)) h.1 (among_of (encoded_keys i.fields h.0) h.1 h.3)) in
    (h.0, record { stored = among_of ds h.0 h.2; keys = key.0; there = key.1; is = h.4 ∙ ap (λ (k : List ℕ). k ++ id_of h.0) key.2 })

module _ (i : Definition) (ds : List Pairs) where
  -- the documents to which texts lead, one each
  abbrev AreTextsOf : List (List ℕ) → List Pairs → Type 0
  AreTextsOf [] [] = Unit {0}
  AreTextsOf (text ∷ texts) (e ∷ es) = IsTextOf i ds e text × AreTextsOf texts es
  AreTextsOf _ _ = ⊥

  led : (texts : List (List ℕ)) → ((text : List ℕ) → Among text texts → IsEntryText ds i text) → (es : List Pairs) × AreTextsOf texts es
  led [] given = ([], tt)
  led (text ∷ texts) given =
      let first = text_of i ds text (given text (inl refl)) in
      let later = led texts (λ t g. given t (inr g)) in
      (first.0 ∷ later.0, (first.1, later.1))

  stored_in : (texts : List (List ℕ)) (es : List Pairs) → AreTextsOf texts es → (d : Pairs) → Among d es → Among d ds
  stored_in [] [] h d g = absurd g
  stored_in [] (e ∷ es) h d g = absurd h
  stored_in (text ∷ texts) [] h d g = absurd h
  stored_in (text ∷ texts) (e ∷ es) h d (inl same) = subst (λ (x : Pairs). Among x ds) (sym same) h.0.stored
  stored_in (text ∷ texts) (e ∷ es) h d (inr g) = stored_in texts es h.1 d g

  -- the text of one of them
  text_for : (texts : List (List ℕ)) (es : List Pairs) → AreTextsOf texts es → (d : Pairs) → Among d es
      → (text : List ℕ) × Among text texts × IsTextOf i ds d text
  text_for [] [] h d g = absurd g
  text_for [] (e ∷ es) h d g = absurd h
  text_for (text ∷ texts) [] h d g = absurd h
  text_for (text ∷ texts) (e ∷ es) h d (inl same) = (text, inl refl, subst (λ (x : Pairs). IsTextOf i ds x text) (sym same) h.0)
  text_for (text ∷ texts) (e ∷ es) h d (inr g) = let t = text_for texts es h.1 d g in (t.0, inr t.1, t.2)

  -- the one of a text
  led_by : (texts : List (List ℕ)) (es : List Pairs) → AreTextsOf texts es → (text : List ℕ) → Among text texts
      → (d : Pairs) × Among d es × IsTextOf i ds d text
  led_by [] es h text g = absurd g
  led_by (t ∷ texts) [] h text g = absurd h
  led_by (t ∷ texts) (e ∷ es) h text (inl same) = (e, inl refl, subst (λ (x : List ℕ). IsTextOf i ds e x) (sym same) h.0)
  led_by (t ∷ texts) (e ∷ es) h text (inr g) = let d = led_by texts es h.1 text g in (d.0, inr d.1, d.2)

  module _ (storable : All IsStorable ds) where
    id_there : (d : Pairs) (text : List ℕ) → IsTextOf i ds d text → id_text i.fields text ≡ Some (id_of d)
    id_there d text h =
        id_behind i.fields d (key_bytes i.fields h.keys) text (of_all IsStorable ds d storable h.stored) (encoded_there i.fields d h.keys h.there) h.is

    spelled_by : (texts : List (List ℕ)) (es : List Pairs) → AreTextsOf texts es → ids_of i.fields texts ≡ map id_of es
    spelled_by [] [] h = refl
    spelled_by [] (e ∷ es) h = absurd h
    spelled_by (text ∷ texts) [] h = absurd h
    spelled_by (text ∷ texts) (e ∷ es) h =
        ap (λ o. option_to_list o ++ ids_of i.fields texts) (id_there e text h.0) ∙ ap (λ (ids : List (List ℕ)). id_of e ∷ ids) (spelled_by texts es h.1)

    module _ (rs : Conditions) (sort : List SortField) (sorted : (range_in rs sort (Some i)).is_sorted ≡ true) (noted : IsNotedFor (Some i) ds) where
      -- they stand in the order of the answer as their texts do
      in_order : (d e : Pairs) (t u : List ℕ) → IsTextOf i ds d t → IsTextOf i ds e u → bytes_cmp t u ≡ answer_cmp sort d e
      in_order d e t u h k =
          let a = key_bytes i.fields h.keys ++ id_of d in
          let b = key_bytes i.fields k.keys ++ id_of e in
          (λ j. bytes_cmp (h.is j) (k.is j)) ∙ sym (behind_front (to_be_bytes w32 i.number) a b)
          ∙ sym (behind_front (to_be_bytes w32 0) (to_be_bytes w32 i.number ++ a) (to_be_bytes w32 i.number ++ b))
          ∙ walks_in_order rs sort i ds d e h.keys k.keys 0 sorted noted storable (contains_of ds d h.stored) (contains_of ds e k.stored)
          (contains_of (index_keys i.fields d) h.keys h.there) (contains_of (index_keys i.fields e) k.keys k.there)

      below_led : (d : Pairs) (text : List ℕ) (texts : List (List ℕ)) (es : List Pairs) → IsTextOf i ds d text → Below bytes_cmp text texts
          → AreTextsOf texts es → Below (answer_cmp sort) d es
      below_led d text [] [] h up k = tt
      below_led d text [] (e ∷ es) h up k = absurd k
      below_led d text (t ∷ texts) [] h up k = absurd k
      below_led d text (t ∷ texts) (e ∷ es) h up k = (sym (in_order d e text t h k.0) ∙ up.0, below_led d text texts es h up.1 k.1)

      led_rise : (texts : List (List ℕ)) (es : List Pairs) → Rises bytes_cmp texts → AreTextsOf texts es → Rises (answer_cmp sort) es
      led_rise [] [] up h = tt
      led_rise [] (e ∷ es) up h = absurd h
      led_rise (t ∷ texts) [] up h = absurd h
      led_rise (t ∷ texts) (e ∷ es) up h = (below_led e t texts es h.0 up.0 h.1, led_rise texts es up.1 h.1)

-- a text of a document lies between the ends of the range
record LiesThere (rs : Conditions) (sort : List SortField) (i : Definition) (ds : List Pairs) (d : Pairs) : Type 0 where
  text : List ℕ
  of : IsTextOf i ds d text
  entry : IsEntryText ds i text
  lies : LiesBetween (first_key i.fields (range_in rs sort (Some i))) (last_key i.fields (range_in rs sort (Some i))) text

same_some : (a b : List ℕ) → Some a ≡ Some b → a ≡ b
same_some a b e = cc

pub first_ids_lead : FirstIdsLead
first_ids_lead rs sort i ds texts sorted noted spelled storable rising read = record {
  documents = es;
  spelled = spelled_by i ds storable texts es led_there.1;
  found = each_found ds es (rises_of (on key_of compare) ds rising) (stored_in i ds texts es led_there.1);
  first = front_of_answer rs sort ds (filter (matches rs) es) rising
      few_rise
      to above;
  whole = λ all.
      (sorts_to_answer sort (filter (matches rs) ds)
      (pairs_of (on key_of compare) (filter (matches rs) ds) (rises_filter (matches rs) (on key_of compare) ds (rises_of (on key_of compare) ds rising)))).1
      (filter (matches rs) es) few_rise (record {
        to = λ d h. let t = to d h in contains_of (filter (matches rs) ds) d (among_filter (matches rs) d ds (among_of ds d t.0) t.1);
        from = λ d h.
            let g = filter_among (matches rs) d ds (among_of (filter (matches rs) ds) d h) in
            let l = lies_there d g.0 g.1 in
            one_of d g.0 g.1 l (led_by i ds texts es led_there.1 l.text (among_of texts l.text (all l.text l.entry l.lies)));
      });
}
  where
    led_there : (es : List Pairs) × AreTextsOf i ds texts es
    led_there = led i ds texts (λ text g. read.given text (contains_of texts text g))

    es : List Pairs
    es = led_there.0

    few_rise : RisesInOrder sort (filter (matches rs) es)
    few_rise = pairs_of (answer_cmp sort) (filter (matches rs) es)
        (rises_filter (matches rs) (answer_cmp sort) es (led_rise i ds storable rs sort sorted noted texts es (rises_of bytes_cmp texts read.rise) led_there.1))

    to : (d : Pairs) → Contains (filter (matches rs) es) d → Contains ds d × (matches rs d ≡ true)
    to d h =
        let g = filter_among (matches rs) d es (among_of (filter (matches rs) es) d h) in
        (contains_of ds d (stored_in i ds texts es led_there.1 d g.0), g.1)

    lies_there : (d : Pairs) → Among d ds → matches rs d ≡ true → LiesThere rs sort i ds d
    lies_there d h e =
        let r = range_in rs sort (Some i) in
        let stored = of_all IsStorable ds d storable h in
        let multi : is_multikey i.fields d ≡ true
        → is_multi (Some i) ≡ true = of_all (λ x. is_multikey i.fields x ≡ true → is_multi (Some i) ≡ true) ds d noted h in
        let k : IsPassing i.fields (has_key r) (index_keys i.fields d) =
        passing i.fields (has_key r) (index_keys i.fields d) (keys_spellable i.fields d (document_is_key d stored))
        (has_key_in_range rs sort (Some i) d multi e) in
        let key : List ℕ = key_bytes i.fields k.one in
        record {
          text = key ++ id_of d;
          of = record { stored = h; keys = k.one; there = k.there; is = refl };
          entry = (d, key, contains_of ds d h, contains_of (encoded_keys i.fields d) key (encoded_there i.fields d k.one k.there), refl);
          lies = spans_range rs sort (Some i) (key ++ id_of d) (has_bytes_behind i.fields r k.one (id_of d) k.spellable spelled k.passes);
        }

    one_of : (d : Pairs) → Among d ds → matches rs d ≡ true → (l : LiesThere rs sort i ds d) → (x : Pairs) × Among x es × IsTextOf i ds x l.text
        → Contains (filter (matches rs) es) d
    one_of d h m l x =
        let agree : id_of d ≡ id_of x.0 =
        same_some (id_of d) (id_of x.0) (sym (id_there i ds storable d l.text l.of) ∙ id_there i ds storable x.0 l.text x.2) in
        let same : d ≡ x.0 = same_document ds d x.0 storable rising h (stored_in i ds texts es led_there.1 x.0 x.1) agree in
        contains_of (filter (matches rs) es) d (among_filter (matches rs) d es (subst (λ (y : Pairs). Among y es) (sym same) x.1) m)

    above : (d e : Pairs) → Contains ds d → matches rs d ≡ true → Contains (filter (matches rs) es) e
        → Contains (filter (matches rs) es) d ⊎ (answer_cmp sort e d ≡ Less)
    above d e h m g =
        let l = lies_there d (among_of ds d h) m in
        let there = filter_among (matches rs) e es (among_of (filter (matches rs) es) e g) in
        let t = text_for i ds texts es led_there.1 e there.0 in
        ⊎_elim (λ read_too. inl (one_of d (among_of ds d h) m l (led_by i ds texts es led_there.1 l.text (among_of texts l.text read_too))))
        (λ less. inr (sym (in_order i ds storable rs sort sorted noted e d t.0 l.text t.2 l.of) ∙ less))
        (read.above l.text t.0 l.entry l.lies (contains_of texts t.0 t.1))
