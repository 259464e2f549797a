-- What is read of an index in a range leads to each document that the filter matches.
use Rattle.std.proofs.Common.{◌≡◌, ℕ, Bool, true, false, ◌||◌, List, [], ◌∷◌, ◌++◌, map, Some, inl, inr, refl, ap, ◌∙◌}
use Rattle.std.specs.Prelude.{Contains}
use Rattle.std.specs.List.{AllByRecursion, list_any}
use Rattle.bson.specs.Tree.{Pairs}
use Rattle.value_order.specs.KeyText.{tree_text}
use Rattle.value_order.specs.Order.{Key}
use Rattle.filter.specs.Matches.{matches}
use Rattle.index.specs.Definition.{Field}
use Rattle.index.specs.IndexKeys.{index_keys, is_multikey}
use Rattle.index.specs.KeyTexts.{encoded_keys, key_bytes}
use Rattle.index.specs.Laws.{IsIndexKey}
use Rattle.entry_model.specs.LawfulState.{IsStorable}
use Rattle.entry_model.specs.State.{key_of}
use Rattle.entry_model.proofs.KeyOfDocument.{IsEncoded, encoded_of, among_test, test_among}
use Rattle.entry_model.proofs.MemberLemmas.{Among, among_image, among_of, contains_of, of_all}
use Rattle.index.proofs.SetLemmas.{set_among}
use Rattle.index.proofs.SpellableLaws.{keys_spellable}
use Rattle.planner.specs.KeyRange.{has_key}
use Rattle.planner.specs.KeyScan.{id_text}
use Rattle.plan_model.specs.Plan.{is_multi, range_in}
use Rattle.planner.specs.RangeReading.{RangeFindsMatching}
use Rattle.planner.proofs.AnswerLemmas.{document_is_key}
use Rattle.planner.proofs.KeyBytesLemmas.{has_bytes_behind}
use Rattle.planner.proofs.KeyRangeLemmas.{has_key_in_range}
use Rattle.planner.proofs.KeyScanLemmas.{finds_id_text}
use Rattle.planner.proofs.KeySpanLemmas.{spans_range}

-- a key that passes, where one of them does
pub record IsPassing (fs : List Field) (p : List Key → Bool) (keys : List (List Key)) : Type 0 where
  pub one : List Key
  pub there : Among one keys
  pub spellable : IsIndexKey fs one
  pub passes : p one ≡ true

pub passing : (fs : List Field) (p : List Key → Bool) (keys : List (List Key)) → AllByRecursion (IsIndexKey fs) keys → list_any p keys ≡ true
    → IsPassing fs p keys
passing fs p [] g e = absurd cc
passing fs p (ks ∷ keys) g e = by (p ks) refl (passing fs p keys g.1) e
  where
    by : (b : Bool) → p ks ≡ b → (list_any p keys ≡ true → IsPassing fs p keys) → (b || list_any p keys) ≡ true → IsPassing fs p (ks ∷ keys)
    by true so later f = record { one = ks; there = inl refl; spellable = g.0; passes = so }
    by false so later f = let l = later f in record { one = l.one; there = inr l.there; spellable = l.spellable; passes = l.passes }

-- an encoded key of each list of keys
pub encoded_there : (fs : List Field) (d : Pairs) (ks : List Key) → Among ks (index_keys fs d) → Among (key_bytes fs ks) (encoded_keys fs d)
encoded_there fs d ks there =
    let keys = map (key_bytes fs) (index_keys fs d) in
    test_among (encoded_keys fs d) (key_bytes fs ks)
    (set_among keys (key_bytes fs ks) ∙ among_test keys (key_bytes fs ks) (among_image (key_bytes fs) ks (index_keys fs d) there))

-- the text of the `_id` is found behind a document's key
pub id_behind : (fs : List Field) (d : Pairs) (key text : List ℕ) → IsStorable d → Among key (encoded_keys fs d) → text ≡ key ++ tree_text (key_of d)
    → id_text fs text ≡ Some (tree_text (key_of d))
id_behind fs d key text stored there is =
    let e : IsEncoded fs key = encoded_of fs d key stored there in
    ap (id_text fs) (is ∙ ap (λ (k : List ℕ). k ++ tree_text (key_of d)) e.is) ∙ finds_id_text fs e.keys (tree_text (key_of d)) e.spellable

pub range_finds_matching : RangeFindsMatching
range_finds_matching rs sort i ds texts noted spelled storable read = (to, from)
  where
    stored : (d : Pairs) → Contains ds d → IsStorable d
    stored d h = of_all IsStorable ds d storable (among_of ds d h)

    to : (text : List ℕ) → Contains texts text → (d : Pairs) × Contains ds d × (id_text i.fields text ≡ Some (tree_text (key_of d)))
    to text h =
        let t = read.given text h in
        (t.0, t.2, id_behind i.fields t.0 t.1 text (stored t.0 t.2) (among_of (encoded_keys i.fields t.0) t.1 t.3) t.4)

    from : (d : Pairs) → Contains ds d → matches rs d ≡ true → (text : List ℕ) × Contains texts text × (id_text i.fields text ≡ Some (tree_text (key_of d)))
    from d h e =
        let r = range_in rs sort (Some i) in
        let multi : is_multikey i.fields d ≡ true
        → is_multi (Some i) ≡ true = of_all (λ x. is_multikey i.fields x ≡ true → is_multi (Some i) ≡ true) ds d noted (among_of ds d h) in
        let k : IsPassing i.fields (has_key r) (index_keys i.fields d) =
        passing i.fields (has_key r) (index_keys i.fields d) (keys_spellable i.fields d (document_is_key d (stored d h)))
        (has_key_in_range rs sort (Some i) d multi e) in
        let key : List ℕ = key_bytes i.fields k.one in
        let there : Among key (encoded_keys i.fields d) = encoded_there i.fields d k.one k.there in
        let text : List ℕ = key ++ tree_text (key_of d) in
        let lies = spans_range rs sort (Some i) text (has_bytes_behind i.fields r k.one (tree_text (key_of d)) k.spellable spelled k.passes) in (
          text,
          read.all text (d, key, h, contains_of (encoded_keys i.fields d) key there, refl) lies,
          id_behind i.fields d key text (stored d h) there refl,
        )
