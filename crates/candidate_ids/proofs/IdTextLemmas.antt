-- Texts of `_id`s that are put behind others, and whose documents they tell.
use Rattle.std.proofs.Common.{◌≡◌, inl, ◌≤◌, ◌<◌, ℕ, Bool, true, false, List, [], ◌∷◌, ◌++◌, length, get_or, Some, refl, sym, ap, subst, ◌∙◌, arith}
use Rattle.std.specs.Prelude.{◌&&◌, ◌||◌}
use Rattle.std.specs.Global.{Vec}
use Rattle.std.specs.List.{AllByRecursion}
use Rattle.std.specs.Ordering.{is_eq, ordering_reverse}
use Rattle.std.specs.declared.cmp.Ordering.{Ordering}
use Rattle.std.specs.declared.cmp.Ordering.TheVariants as orders
use Rattle.bson.specs.Tree.{Tree, Pairs}
use Rattle.bson.specs.Lookup.{lookup}
use Rattle.value_order.specs.KeyText.{tree_text}
use Rattle.value_order.specs.Laws.{IsKey}
use Rattle.value_order.specs.Order.{bytes_cmp, compare, value}
use Rattle.value_order.specs.TotalLaws.{compare_total}
use Rattle.value_order.specs.declared.texts.Direction.TheVariants as directions
use Rattle.value_order.proofs.KeyLaws.{texts_agree}
use Rattle.path.specs.Reach.{Reached}
use Rattle.update_model.specs.Stored.{id_name}
use Rattle.filter.specs.Condition.{equal, at, is, Conditions}
use Rattle.filter.specs.Matches.{all_hold, along, holds, is_equal, passes, whole, Subject}
use Rattle.filter.specs.IdPaths.{is_id}
use Rattle.filter.specs.View.{condition_of, conditions_of}
use Rattle.filter.specs.declared.condition.Condition.{Condition as Made}
use Rattle.index.specs.Changes.{is_among}
use Rattle.index.specs.KeyTexts.{ascending_set, put_at, put_key}
use Rattle.entry_model.specs.LawfulState.{IsLawfulState, IsStorable}
use Rattle.entry_model.specs.State.{Collection, key_of}
use Rattle.index.specs.View.{texts_of}
use Rattle.entries.specs.declared.catalogue_reading.Catalogued.{Catalogued}
use Rattle.entry_model.proofs.LawfulParts.{id_is_key}
use Rattle.entry_model.proofs.FoundLawLemmas.{found_collection}
use Rattle.entry_model.proofs.KeyOfDocument.{among_test, test_among}
use Rattle.entry_model.proofs.MemberLemmas.{among_back, among_front, among_of, contains_of, of_all}
use Rattle.index.proofs.SetLemmas.{set_among, set_sorted}
use Rattle.planner.specs.IdLaws.{AreIdTexts}
use Rattle.planner.proofs.RisingLemmas.{pairs_of}
use Rattle.pager.proofs.ListLemmas.{all_joined}
use Rattle.database_model.specs.Lawful.{IsStored}
use Rattle.asked_documents.specs.Asking.{IsAsked}
use Rattle.asked_documents.specs.ById.{AreIdsOf, ArePut, HasId, IsIdText, IsIn, IsPlain, Tell, TellBeside, TellIds, TellValues}
use Rattle.planner.proofs.UsableLemmas.{and_first}
use Rattle.candidate_ids.proofs.ByIdLemmas.{equal_eq, holds_at, lookup_of, never_missing, or_none, reached_id}
use Rattle.candidate_ids.proofs.ByIndexLemmas.{rise}

-- ---- texts behind others

pub texts_behind : (vs : List (Vec ℕ)) (v : Vec ℕ) → texts_of (vs ++ v ∷ []) ≡ texts_of vs ++ v.items ∷ []
texts_behind [] v = refl
texts_behind (w ∷ vs) v = ap (λ (ts : List (List ℕ)). w.items ∷ ts) (texts_behind vs v)

module _ (old new : List (List ℕ)) (id : Tree) (text : List ℕ) (key : IsKey (value id)) (spelled : text ≡ tree_text id) (made : new ≡ old ++ text ∷ []) where
  pub put_one : ArePut old new
  put_one = subst (ArePut old) (sym made) (record {
    texts = λ h. all_joined IsIdText old (text ∷ []) h (record { id = id; spelled = spelled; key = key }, tt);
    kept = λ q h. among_test (old ++ text ∷ []) q (among_front q old (text ∷ []) (test_among old q h));
  })

  pub one_tells : TellValues (λ t. is_eq (compare t id)) new
  one_tells = subst (TellValues (λ t. is_eq (compare t id))) (sym made) (λ t plain tied.
      let same : tree_text t ≡ text = (texts_agree directions.Ascending (value t) (value id) plain.0 key).1 (equal_eq (compare t id) tied) ∙ sym spelled in
      among_test (old ++ text ∷ []) (tree_text t) (among_back (tree_text t) old (text ∷ []) (inl same)))

-- ---- one test after the other

or_true : (b c : Bool) → c ≡ true → (b || c) ≡ true
or_true true c e = refl
or_true false c e = e

-- what was told by the others, or is told by the next one, is told now
or_next : (was now one rest : Bool) → (was ≡ true → now ≡ true) → (one ≡ true → now ≡ true) → (was || (one || rest)) ≡ true → (now || rest) ≡ true
or_next true now one rest kept tells e = ap (λ (b : Bool). b || rest) (kept refl)
or_next false now true rest kept tells e = ap (λ (b : Bool). b || rest) (tells refl)
or_next false now false rest kept tells e = or_true now rest e

module _ {X : Type 0} (Is : X → Type 0) (text_of : X → List ℕ) (all : X → Bool) where
  pub left_all : (texts : List (List ℕ)) → TellBeside Is text_of all all texts
  left_all texts x has e = or_true (is_among texts (text_of x)) (all x) e

  pub left_next : (one rest : X → Bool) (texts next : List (List ℕ)) → ArePut texts next → Tell Is text_of one next
      → TellBeside Is text_of all (λ x. one x || rest x) texts → TellBeside Is text_of all rest next
  left_next one rest texts next put tells left x has e =
      or_next (is_among texts (text_of x)) (is_among next (text_of x)) (one x) (rest x) (put.kept (text_of x)) (tells x has) (left x has e)

  pub left_none : (texts : List (List ℕ)) → TellBeside Is text_of all (λ x. false) texts → Tell Is text_of all texts
  left_none texts left x has e = or_none (is_among texts (text_of x)) (left x has e)

pub either_tells : (a b now : Bool) → (a ≡ true → now ≡ true) → (b ≡ true → now ≡ true) → (a || b) ≡ true → now ≡ true
either_tells true b now from_a from_b e = from_a refl
either_tells false b now from_a from_b e = from_b e

-- ---- conditions on a value

same_test : (o : Ordering) → is_equal o ≡ true → is_eq o ≡ true
same_test orders.Less e = absurd cc
same_test orders.Equal e = refl
same_test orders.Greater e = absurd cc

pub equal_tells : (v : Tree) (texts : List (List ℕ)) → TellValues (λ t. is_eq (compare t v)) texts
    → TellValues (λ t. holds (is (equal v)) (along (Some t ∷ []))) texts
equal_tells v texts tells t plain holding =
    tells t plain (same_test (compare t v) (never_missing v t (or_none (passes (equal v) false (Some t)) holding) plain.1))

-- the first of the conditions on the path of the `_id`
pub first_tells : (path : List (List ℕ)) (rs : List Made) (r : Made) (asked : Conditions) (texts : List (List ℕ)) → is_id path ≡ true → 1 ≤ length rs
    → r ≡ get_or rs 0 r → conditions_of rs ≡ asked
    → TellValues (λ t. holds (condition_of r) (along (Some t ∷ []))) texts → TellIds (λ d. holds (at path asked) (whole d)) texts
first_tells path [] r asked texts named some first same tells = absurd (omega (arith, some))
first_tells path (x ∷ rs) r asked texts named some first same tells =
    subst (λ (a : Conditions). TellIds (λ d. holds (at path a) (whole d)) texts) same (λ d has holding.
    let key : Subject = along (Some (key_of d) ∷ []) in
    let reached = reached_id path d named has.0 in
    let there : (holds (condition_of x) key && all_hold (conditions_of rs) key) ≡ true =
    ap (λ (reach : List Reached). holds (condition_of x) (along reach) && all_hold (conditions_of rs) (along reach)) (sym reached) ∙ holding in
    let plain : IsPlain (key_of d) = (has.1, (lookup_of (lookup d id_name) (key_of d) has.0.key).1) in
    tells (key_of d) plain
    (ap (λ (q : Made). holds (condition_of q) key) first ∙ and_first (holds (condition_of x) key) (all_hold (conditions_of rs) key) there))

-- one condition among others
pub filter_tells : (rs : List Made) (i : ℕ) (r : Made) (texts : List (List ℕ)) → i < length rs → r ≡ get_or rs i r
    → TellIds (λ d. holds (condition_of r) (whole d)) texts → TellIds (λ d. all_hold (conditions_of rs) (whole d)) texts
filter_tells rs i r texts within there tells d has all =
    tells d has (ap (λ (x : Made). holds (condition_of x) (whole d)) there ∙ holds_at rs i r (whole d) within all)

-- ---- documents of which the `_id`s are told

turned : (a b : Tree) → is_eq (compare a b) ≡ true → is_eq (compare b a) ≡ true
turned a b e = by (compare a b) refl e
  where
    by : (o : Ordering) → compare a b ≡ o → is_eq o ≡ true → is_eq (compare b a) ≡ true
    by orders.Less same f = absurd cc
    by orders.Equal same f = ap is_eq (compare_total.antisymm b a ∙ ap ordering_reverse same)
    by orders.Greater same f = absurd cc

-- those that have the `_id` of a document
pub made_tells : (m : Pairs) (v : Tree) (texts : List (List ℕ)) → v ≡ key_of m → TellValues (λ t. is_eq (compare t v)) texts
    → TellIds (λ x. is_eq (compare (key_of m) (key_of x))) texts
made_tells m v texts same tells x has e =
    let plain : IsPlain (key_of x) = (has.1, (lookup_of (lookup x id_name) (key_of x) has.0.key).1) in
    tells (key_of x) plain (ap (λ (w : Tree). is_eq (compare (key_of x) w)) same ∙ turned (key_of m) (key_of x) e)

-- ---- each once, ascending

put_each : (P : List ℕ → Type 0) (k : List ℕ) (ls : List (List ℕ)) → P k → AllByRecursion P ls → AllByRecursion P (put_key k ls)
put_each P k [] p h = (p, tt)
put_each P k (l ∷ ls) p h = by (bytes_cmp k l) (put_each P k ls p h.1)
  where
    by : (o : Ordering) → AllByRecursion P (put_key k ls) → AllByRecursion P (put_at o k l ls (put_key k ls))
    by orders.Less later = (p, h)
    by orders.Equal later = h
    by orders.Greater later = (h.0, later)

set_each : (P : List ℕ → Type 0) (ks : List (List ℕ)) → AllByRecursion P ks → AllByRecursion P (ascending_set ks)
set_each P [] h = tt
set_each P (k ∷ ks) h = put_each P k (ascending_set ks) h.0 (set_each P ks h.1)

ids_of : (ks : List (List ℕ)) → AllByRecursion IsIdText ks → (ids : List Tree) × AreIdTexts ks ids
ids_of [] h = ([], tt)
ids_of (k ∷ ks) h = let rest = ids_of ks h.1 in (h.0.id ∷ rest.0, (h.0.spelled, h.0.key, rest.1))

-- the documents of a collection that pass are among those of the texts
pub ids_told : (home : Catalogued) (p : Pairs → Bool) (texts told : List (List ℕ)) (now : List Collection) (c : Collection) → AllByRecursion IsIdText texts
    → Tell (IsIn c) (λ d. tree_text (key_of d)) p texts → told ≡ ascending_set texts → IsLawfulState now → IsAsked home now c
    → AreIdsOf home.number p told now c
ids_told home p texts told now c each tells made state asked =
    let kept = (found_collection now c.name c state asked.numbered.found).0 in
    let set = ascending_set texts in
    let ids = ids_of set (set_each IsIdText texts each) in
    subst (λ (ts : List (List ℕ)). AreIdsOf home.number p ts now c) (sym made) (record {
      numbered = asked.numbered;
      ids = ids.0;
      told = ids.1;
      ascending = pairs_of bytes_cmp set (rise set (set_sorted texts));
      all = λ d there passes.
          let here = among_of c.documents d there in
          let has : HasId d = (of_all IsStored c.documents d asked.stored here, id_is_key d (of_all IsStorable c.documents d kept.storable here)) in
          contains_of set (tree_text (key_of d)) (test_among set (tree_text (key_of d)) (set_among texts (tree_text (key_of d)) ∙ tells d (there, has) passes));
    })
