-- What the end of an index entry's key tells: the encoded key, and the document.
use Rattle.std.proofs.Common.{◌≡◌, ℕ, suc, Bool, true, false, not, ◌||◌, ◌&&◌, List, [], ◌∷◌, ◌++◌, map, ◌⊎◌, inl, inr, refl, sym, ap, subst, ◌∙◌, arith}
use Rattle.std.specs.List.{AllByRecursion, AllPairs}
use Rattle.std.specs.Ordering.{eq_by_cmp, is_eq}
use Rattle.std.specs.declared.cmp.Ordering.{Ordering}
use Rattle.std.specs.declared.cmp.Ordering.TheVariants.{Less, Equal, Greater}
use Rattle.std.proofs.lemmas.Map.Lookups.{exact_bytes}
use Rattle.bson.specs.Tree.{Pairs, document}
use Rattle.bson.specs.Spelling.{tree_bytes}
use Rattle.value_order.specs.Laws.{IsKey}
use Rattle.value_order.specs.Order.{Key, value, bytes_cmp}
use Rattle.value_order.specs.KeyText.{tree_text}
use Rattle.index.specs.Changes.{is_among, without}
use Rattle.index.specs.Definition.{Field}
use Rattle.index.specs.IndexKeys.{index_keys}
use Rattle.index.specs.KeyTexts.{key_bytes, encoded_keys}
use Rattle.index.specs.Laws.{IsIndexKey}
use Rattle.entry_model.specs.State.{key_of}
use Rattle.entry_model.specs.LawfulState.{IsStorable}
use Rattle.entry_model.proofs.MemberLemmas.{Among, among_map, first_of}
use Rattle.index.proofs.SetLemmas.{set_among, same_itself}
use Rattle.index.proofs.SetLaws.{not_among}
use Rattle.index.proofs.OrderLaws.{keys_agree}
use Rattle.index.proofs.SpellableLaws.{keys_spellable}

-- ---- members by a test and by a proof

tie : (o : Ordering) → is_eq o ≡ true → o ≡ Equal
tie Less e = absurd cc
tie Equal e = refl
tie Greater e = absurd cc

pub test_among : (keys : List (List ℕ)) (key : List ℕ) → is_among keys key ≡ true → Among key keys
test_among [] key e = absurd cc
test_among (k ∷ ks) key e = by (eq_by_cmp bytes_cmp key k) refl e (test_among ks key)
  where
    by : (b : Bool) → eq_by_cmp bytes_cmp key k ≡ b → (b || is_among ks key) ≡ true → (is_among ks key ≡ true → Among key ks) → Among key (k ∷ ks)
    by true same is later = inl (exact_bytes key k (tie (bytes_cmp key k) same))
    by false other is later = inr (later is)

pub among_test : (keys : List (List ℕ)) (key : List ℕ) → Among key keys → is_among keys key ≡ true
among_test [] key h = absurd h
among_test (k ∷ ks) key (inl e) = ap (λ (b : Bool). b || is_among ks key) (ap (λ (l : List ℕ). eq_by_cmp bytes_cmp key l) (sym e) ∙ same_itself key)
among_test (k ∷ ks) key (inr h) = ap (λ (b : Bool). eq_by_cmp bytes_cmp key k || b) (among_test ks key h) ∙ or_true (eq_by_cmp bytes_cmp key k)
  where
    or_true : (b : Bool) → (b || true) ≡ true
    or_true true = refl
    or_true false = refl

-- the keys that are none of the others
pub among_without : (keys others : List (List ℕ)) (key : List ℕ) → Among key keys → is_among others key ≡ false → Among key (without keys others)
among_without keys others key h e =
    test_among (without keys others) key (not_among keys others key ∙ (λ i. among_test keys key h i && not (e i)))

both_true : (a b : Bool) → (a && b) ≡ true → (a ≡ true) × (b ≡ true)
both_true true b e = (refl, e)
both_true false b e = absurd cc

not_true : (b : Bool) → not b ≡ true → b ≡ false
not_true true e = absurd cc
not_true false e = refl

pub without_among : (keys others : List (List ℕ)) (key : List ℕ) → Among key (without keys others) → Among key keys × (is_among others key ≡ false)
without_among keys others key h =
    let told = both_true (is_among keys key) (not (is_among others key)) (sym (not_among keys others key) ∙ among_test (without keys others) key h) in
    (test_among keys key told.0, not_true (is_among others key) told.1)

-- ---- keys of documents

document_is_key : (d : Pairs) → IsStorable d → IsKey (value (document d))
unfolding tree_bytes
document_is_key d h = (h.lawful.lawful, omega (arith, h.size))

all_among : {X : Type 0} (P : X → Type 0) (xs : List X) (x : X) → AllByRecursion P xs → Among x xs → P x
all_among P [] x h g = absurd g
all_among P (y ∷ ys) x h (inl e) = subst P (sym e) h.0
all_among P (y ∷ ys) x h (inr g) = all_among P ys x h.1 g

-- an encoded key is that of values which BSON can spell
pub record IsEncoded (fs : List Field) (key : List ℕ) : Type 0 where
  pub keys : List Key
  pub spellable : IsIndexKey fs keys
  pub is : key ≡ key_bytes fs keys

pub encoded_of : (fs : List Field) (d : Pairs) (key : List ℕ) → IsStorable d → Among key (encoded_keys fs d) → IsEncoded fs key
encoded_of fs d key h there =
    let bytes = map (key_bytes fs) (index_keys fs d) in
    let one = among_map (key_bytes fs) key (index_keys fs d) (test_among bytes key (sym (set_among bytes key) ∙ among_test (encoded_keys fs d) key there)) in
    record { keys = one.0; spellable = all_among (IsIndexKey fs) (index_keys fs d) one.0 (keys_spellable fs d (document_is_key d h)) one.1; is = one.2 }

pub same_back : (k x y : List ℕ) → k ++ x ≡ k ++ y → x ≡ y
same_back [] x y e = e
same_back (b ∷ k) x y e = same_back k x y (tail e)
  where
    tail : b ∷ (k ++ x) ≡ b ∷ (k ++ y) → k ++ x ≡ k ++ y
    tail f = cc

-- where two encoded keys with the texts of `_id`s behind them are equal, so are the keys, and the texts
pub same_keys : (fs : List Field) (d e : Pairs) (key other : List ℕ) → IsStorable d → IsStorable e → Among key (encoded_keys fs d)
    → Among other (encoded_keys fs e)
    → key ++ tree_text (key_of d) ≡ other ++ tree_text (key_of e) → (key ≡ other) × (tree_text (key_of d) ≡ tree_text (key_of e))
same_keys fs d e key other hd he p q same =
    let a = encoded_of fs d key hd p in
    let b = encoded_of fs e other he q in
    let ends : key_bytes fs a.keys ++ tree_text (key_of d) ≡ key_bytes fs b.keys ++ tree_text (key_of e) =
    (λ i. sym a.is i ++ tree_text (key_of d)) ∙ same ∙ (λ i. b.is i ++ tree_text (key_of e)) in
    let one : key ≡ other = a.is ∙ (keys_agree fs a.keys b.keys (tree_text (key_of d)) (tree_text (key_of e)) a.spellable b.spellable).1 ends ∙ sym b.is in
    (one, same_back other (tree_text (key_of d)) (tree_text (key_of e)) ((λ i. sym one i ++ tree_text (key_of d)) ∙ same))

-- ---- one of a list, and the others

pub among_middle : {X : Type 0} (x y : X) (front back : List X) → Among x (front ++ y ∷ back) → (x ≡ y) ⊎ Among x (front ++ back)
among_middle x y [] back h = h
among_middle x y (z ∷ front) back (inl e) = inr (inl e)
among_middle x y (z ∷ front) back (inr h) = elim (among_middle x y front back h) [ inl e ↦ inl e | inr g ↦ inr (inr g) ]

pub among_around : {X : Type 0} (x y : X) (front back : List X) → Among x (front ++ back) → Among x (front ++ y ∷ back)
among_around x y [] back h = inr h
among_around x y (z ∷ front) back (inl e) = inl e
among_around x y (z ∷ front) back (inr h) = inr (among_around x y front back h)

pub among_there : {X : Type 0} (y : X) (front back : List X) → Among y (front ++ y ∷ back)
among_there y [] back = inl refl
among_there y (z ∷ front) back = inr (among_there y front back)

-- where each is related to those behind it, one is related to each of the others, or they to it
pub others_of : {X : Type 0} (R : X → X → Type 0) (x y : X) (front back : List X) → AllPairs R (front ++ y ∷ back) → Among x (front ++ back) → R x y ⊎ R y x
others_of R x y [] back h g = inr (first_of R y back x h g)
others_of R x y (z ∷ front) back h (inl e) = inl (subst (λ w. R w y) (sym e) (first_of R z (front ++ y ∷ back) y h (among_there y front back)))
others_of R x y (z ∷ front) back h (inr g) = others_of R x y front back (λ i j d lt below. h (suc i) (suc j) d (omega (arith, lt)) (omega (arith, below))) g
