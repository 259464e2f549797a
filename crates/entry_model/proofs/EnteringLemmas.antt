-- A document that enters a collection: what isn't refused keeps the documents and the indexes lawful.
use Rattle.std.proofs.Common.{◌≡◌, ℕ, Bool, true, false, List, [], ◌∷◌, ◌++◌, ◌⊎◌, inl, inr, map, Result, Ok, Err, refl, sym, ap, subst, ◌∙◌, arith}
use Rattle.std.specs.Prelude.{◌&&◌, ◌||◌, not, is_some, if◌then◌else◌, All}
use Rattle.std.specs.List.{list_any}
use Rattle.std.specs.Ordering.{is_eq, eq_by_cmp}
use Rattle.std.specs.declared.cmp.Ordering.{Ordering}
use Rattle.std.specs.declared.cmp.Ordering.TheVariants as orders
use Rattle.std.proofs.lemmas.Map.Lookups.{exact_bytes}
use Rattle.bson.specs.Tree.{Pairs}
use Rattle.value_order.specs.Order.{bytes_cmp, compare}
use Rattle.outcome.specs.Outcome.{◌>>=◌, unless}
use Rattle.path.specs.declared.refusal.Refusal.{Refusal}
use Rattle.path.specs.declared.refusal.Refusal.TheVariants as refusals
use Rattle.index.specs.Changes.{is_among}
use Rattle.index.specs.Definition.{Field, Definition}
use Rattle.entry_model.specs.Documents.{put_document}
use Rattle.entry_model.specs.Entering.{AreIndexed, DocumentWrite, StayIndexed, clashes, entered, is_duplicate, is_other, share_key, with_document}
use Rattle.index.specs.IndexKeys.{has_parallel_arrays, is_multikey, noted}
use Rattle.entry_model.specs.KeptLaws.{MayEnter}
use Rattle.index.specs.KeyTexts.{encoded_keys, is_too_long, keys_in, keys_in_all}
use Rattle.entry_model.specs.LawfulState.{IsIndexOf, IsRising, ShareNoKey}
use Rattle.entry_model.specs.State.{Collection, key_of}
use Rattle.entry_model.specs.StateReads.{find_document}
use Rattle.entry_model.proofs.DocumentPlaces.{placed, turned}
use Rattle.entry_model.proofs.KeyOfDocument.{among_around}
use Rattle.entry_model.proofs.KeptSteps.{index_with, index_without, long_map, noted_distinct, noted_fields, noted_for, noted_index, pairs_around, pairs_middle}
use Rattle.entry_model.proofs.LawfulLaws.{all_of}
use Rattle.entry_model.proofs.MemberLemmas.{Among, among_append, among_map, of_all}

-- ---- tests

-- where none passes, this one doesn't
pub not_any : {X : Type 0} (f : X → Bool) (xs : List X) (x : X) → list_any f xs ≡ false → Among x xs → f x ≡ false
not_any f [] x none there = absurd there
not_any {X} f (y ∷ ys) x none there = by (f y) refl there none (not_any f ys x)
  where
    by : (b : Bool) → f y ≡ b → (x ≡ y) ⊎ Among x ys → (b || list_any f ys) ≡ false → (list_any f ys ≡ false → Among x ys → f x ≡ false) → f x ≡ false
    by true is there e rest = absurd cc
    by false is (inl same) e rest = ap f same ∙ is
    by false is (inr later) e rest = rest e later

-- the parts of a test that isn't met
neither : (a b : Bool) → (a || b) ≡ false → (a ≡ false) × (b ≡ false)
neither true b e = absurd cc
neither false b e = (refl, e)

-- ---- keys

-- what is known of a document where none of the indexes refuses it
module _ (is : List Definition) (d : Pairs) (all : List (List (List ℕ))) (keyed : keys_in_all is d ≡ Ok all) where
  short_and_apart : (list_any (λ i. is_too_long i.fields d) is ≡ false) × (list_any (λ i. has_parallel_arrays i.fields d) is ≡ false)
  short_and_apart = by (list_any (λ i. is_too_long i.fields d) is) (list_any (λ i. has_parallel_arrays i.fields d) is) keyed
    where
      by : (a b : Bool) → unless a refusals.KeyTooLong (unless b refusals.CannotIndexParallelArrays (Ok (map (λ i. encoded_keys i.fields d) is))) ≡ Ok all
          → (a ≡ false) × (b ≡ false)
      by true b e = absurd cc
      by false true e = absurd cc
      by false false e = (refl, refl)

  pub keyed_in : (i : Definition) → Among i is → keys_in i.fields d ≡ Ok (encoded_keys i.fields d)
  keyed_in i there =
      let long = not_any (λ j. is_too_long j.fields d) is i short_and_apart.0 there in
      let parallel = not_any (λ j. has_parallel_arrays j.fields d) is i short_and_apart.1 there in
      λ k. unless (long k) refusals.KeyTooLong (unless (parallel k) refusals.CannotIndexParallelArrays (Ok (encoded_keys i.fields d)))

-- ---- documents that share no key

tied : (o : Ordering) → is_eq o ≡ true → o ≡ orders.Equal
tied orders.Less e = absurd cc
tied orders.Equal e = refl
tied orders.Greater e = absurd cc

-- a key that is tested to be among others stands there
pub stands_among : (keys : List (List ℕ)) (key : List ℕ) → is_among keys key ≡ true → Among key keys
stands_among [] key e = absurd cc
stands_among (k ∷ ks) key e = by (eq_by_cmp bytes_cmp key k) refl e (stands_among ks key)
  where
    by : (b : Bool) → eq_by_cmp bytes_cmp key k ≡ b → (b || is_among ks key) ≡ true → (is_among ks key ≡ true → Among key ks) → (key ≡ k) ⊎ Among key ks
    by true is f rest = inl (exact_bytes key k (tied (bytes_cmp key k) is))
    by false is f rest = inr (rest f)

share_none : (fields : List Field) (d e : Pairs) → share_key fields d e ≡ false → ShareNoKey fields d e
share_none fields d e none key there =
    not_any (is_among (encoded_keys fields e)) (encoded_keys fields d) key none (stands_among (encoded_keys fields d) key there)

-- a document that clashes with none of these shares no key with those of another `_id`
apart_from : (ds others : List Pairs) (d : Pairs) (i : Definition) → clashes ds d i ≡ false → i.is_unique ≡ true
    → ((e : Pairs) → Among e others → Among e ds × (is_other d e ≡ true))
    → All (ShareNoKey i.fields d) others
apart_from ds others d i clear unique within =
    all_of (ShareNoKey i.fields d) others (λ e there.
    let w = within e there in
    let none : list_any (λ x. is_other d x && share_key i.fields d x) ds ≡ false =
    sym (ap (λ (b : Bool). b && list_any (λ x. is_other d x && share_key i.fields d x) ds) unique) ∙ clear in
    let both : (is_other d e && share_key i.fields d e) ≡ false = not_any (λ x. is_other d x && share_key i.fields d x) ds e none w.0 in
    share_none i.fields d e (sym (ap (λ (b : Bool). b && share_key i.fields d e) w.1) ∙ both))

-- documents that are below or above have another `_id`
other_below : (d e : Pairs) → compare (key_of d) (key_of e) ≡ orders.Less → is_other d e ≡ true
other_below d e less = ap (λ (o : Ordering). not (is_eq o)) less

other_above : (d e : Pairs) → compare (key_of e) (key_of d) ≡ orders.Less → is_other d e ≡ true
other_above d e less = ap (λ (o : Ordering). not (is_eq o)) (turned (key_of e) (key_of d) orders.Less less)

-- ---- one index

noted_unique : (d : Pairs) (i : Definition) → (noted d i).is_unique ≡ i.is_unique
noted_unique d i =
    elim (is_multikey i.fields d) as (λ (b : Bool). (if b then record i { is_multi = true } else i).is_unique ≡ i.is_unique) [ true ↦ refl | false ↦ refl ]

may_enter : (is : List Definition) (ds others : List Pairs) (d : Pairs) (all : List (List (List ℕ))) → keys_in_all is d ≡ Ok all
    → list_any (clashes ds d) is ≡ false
    → ((e : Pairs) → Among e others → Among e ds × (is_other d e ≡ true)) → (i : Definition) → Among i is → MayEnter others d (noted d i)
may_enter is ds others d all keyed clear within i there = record {
  keys = subst (λ (fs : List Field). keys_in fs d ≡ Ok (encoded_keys fs d)) (sym (noted_fields d i)) (keyed_in is d all keyed i there);
  unique = λ u. subst (λ (fs : List Field). All (ShareNoKey fs d) others) (sym (noted_fields d i))
      (apart_from ds others d i (not_any (clashes ds d) is i clear there) (sym (noted_unique d i) ∙ u) within);
  multi = noted_for d i;
}

-- indexes of some documents are those of these with one more, where it may enter each of them
enters_all : (is : List Definition) (front back : List Pairs) (d : Pairs) → All (IsIndexOf (front ++ back)) is
    → ((i : Definition) → Among i is → MayEnter (front ++ back) d (noted d i))
    → All (IsIndexOf (front ++ d ∷ back)) (map (noted d) is)
enters_all is front back d h may =
    all_of (IsIndexOf (front ++ d ∷ back)) (map (noted d) is) (λ j there.
    let i = among_map (noted d) j is there in
    let was = of_all (IsIndexOf (front ++ back)) is i.0 h i.1 in
    subst (IsIndexOf (front ++ d ∷ back)) (sym i.2) (index_with (noted d i.0) front back d (noted_index d (front ++ back) i.0 was) (may i.0 i.1)))

-- ---- all of it

module _ (is : List Definition) (ds : List Pairs) (d : Pairs) (all : List (List (List ℕ))) (keyed : keys_in_all is d ≡ Ok all)
    (clear : list_any (clashes ds d) is ≡ false) (h : AreIndexed ds is) where
  abbrev Below : Pairs → Pairs → Type 0
  Below e f = compare (key_of e) (key_of f) ≡ orders.Less

  -- what goes around it stays in order and in the indexes
  around : (front back : List Pairs) → IsRising (front ++ back) → All (IsIndexOf (front ++ back)) is → put_document d ds ≡ front ++ d ∷ back
      → ((e : Pairs) → Among e (front ++ back) → Among e ds) → ((e : Pairs) → Among e front → Below e d) → ((e : Pairs) → Among e back → Below d e)
      → AreIndexed (put_document d ds) (map (noted d) is)
  around front back rising indexes put within behind before =
      let other : (e : Pairs) → Among e (front ++ back) → Among e ds × (is_other d e ≡ true) = λ e there.
      (within e there, elim (among_append e front back there) [ inl f ↦ other_above d e (behind e f) | inr b ↦ other_below d e (before e b) ]) in
      subst (λ (es : List Pairs). AreIndexed es (map (noted d) is)) (sym put) (record {
        rising = pairs_middle Below front back d rising behind before;
        indexes = enters_all is front back d indexes (may_enter is ds (front ++ back) d all keyed clear other);
        distinct = noted_distinct d is h.distinct;
        few = omega (arith, long_map (noted d) is, h.few);
      })

  pub stay_with : AreIndexed (put_document d ds) (map (noted d) is)
  stay_with = elim (placed d ds h.rising) [
    | inl b ↦ around b.front b.back (subst IsRising b.split h.rising) (subst (λ (es : List Pairs). All (IsIndexOf es) is) b.split h.indexes) b.put
        (λ e there. subst (λ (es : List Pairs). Among e es) (sym b.split) there) b.behind b.before
    | inr b ↦ around b.front b.back (pairs_around Below b.front b.back b.old (subst IsRising b.split h.rising))
        (all_of (IsIndexOf (b.front ++ b.back)) is
        (λ i there. index_without i b.front b.back b.old (subst (λ (es : List Pairs). IsIndexOf es i) b.split (of_all (IsIndexOf ds) is i h.indexes there))))
        b.put
        (λ e there. subst (λ (es : List Pairs). Among e es) (sym b.split) (among_around e b.old b.front b.back there)) b.behind b.before
  ]

-- ---- what was entered

-- a document that entered was refused by no index, and was no duplicate
pub record HasEntered (c next : Collection) (w : DocumentWrite) : Type 0 where
  pub keys : List (List (List ℕ))
  pub keyed : keys_in_all c.indexes w.document ≡ Ok keys
  pub is_new : (w.is_new && is_some (find_document c.documents (key_of w.document))) ≡ false
  pub clear : list_any (clashes c.documents w.document) c.indexes ≡ false
  pub is : next ≡ with_document w.document c

pub has_entered : (c next : Collection) (w : DocumentWrite) → entered c w ≡ Ok next → HasEntered c next w
has_entered c next w e = by (keys_in_all c.indexes w.document) (is_duplicate c w) refl refl e
  where
    by : (r : Result (List (List (List ℕ))) Refusal) (b : Bool) → keys_in_all c.indexes w.document ≡ r → is_duplicate c w ≡ b
        → (r >>= (λ keys. unless b refusals.DuplicateKey (Ok (with_document w.document c)))) ≡ Ok next → HasEntered c next w
    by (Err r) b keyed dup f = absurd cc
    by (Ok keys) true keyed dup f = absurd cc
    by (Ok keys) false keyed dup f =
        let parts = neither (w.is_new && is_some (find_document c.documents (key_of w.document))) (list_any (clashes c.documents w.document) c.indexes) dup in
        record { keys = keys; keyed = keyed; is_new = parts.0; clear = parts.1; is = cc }

pub stay_indexed : StayIndexed
stay_indexed c next w h e =
    let x = has_entered c next w e in
    subst (λ (n : Collection). AreIndexed n.documents n.indexes) (sym x.is) (stay_with c.indexes c.documents w.document x.keys x.keyed x.clear h)
