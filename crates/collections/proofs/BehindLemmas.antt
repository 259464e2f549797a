-- Texts of an index's entries: what their keys go on with from a front, and the front of a range.
use Rattle.std.proofs.Common.{◌≡◌, ℕ, suc, ◌+◌, ◌≤◌, Bool, true, false, List, [], ◌∷◌, ◌++◌, length, take, drop, Option, Some, None}
use Rattle.std.proofs.Common.{◌⊎◌, inl, inr, refl, sym, ap, subst, ◌∙◌, arith, append_assoc, append-nil}
use Rattle.std.specs.Prelude.{nat_eq, if◌then◌else◌, MatchOption}
use Rattle.std.specs.List.{starts_with}
use Rattle.std.specs.Option.{option_to_list}
use Rattle.std.specs.Ordering.{is_gt, is_lt, nat_cmp, ordering_reverse, ordering_then}
use Rattle.std.specs.declared.cmp.Ordering.{Ordering}
use Rattle.std.specs.declared.cmp.Ordering.TheVariants.{Less, Equal, Greater}
use Rattle.std.proofs.lemmas.Cmp.{nat_cmp_total, tied_itself}
use Rattle.std.proofs.lemmas.List.{take-append-drop}
use Rattle.std.proofs.lemmas.Map.Lookups.{exact_bytes, exact_unsigned}
use Rattle.std.proofs.Math.Seq.{drop-append_seam}
use Rattle.tree_model.specs.Keys.{Each, Entry, IsUnder, Rises, is_within, key_cmp}
use Rattle.tree_model.specs.Calls.{IsBatch}
use Rattle.tree_model.proofs.KeyLemmas.{not_under_itself, under_trans}
use Rattle.entries.specs.OtherKeys.{IsEndOf}
use Rattle.entry_model.specs.StateEntries.{entry_keys}
use Rattle.entries.proofs.FrontLemmas.{starts_so, starts_there}
use Rattle.entry_model.proofs.MemberLemmas.{Among, among_each, among_flat}
use Rattle.collections.specs.IndexTexts.{text_behind, texts_behind}

-- ---- texts behind a front

-- a key goes on from the front, or it has no text behind it
pub either_text : (front key : List ℕ)
    → ((text_behind front key ≡ Some (drop (length front) key)) × (key ≡ front ++ drop (length front) key)) ⊎ (text_behind front key ≡ None)
either_text front key = by (starts_with nat_eq key front) refl
  where
    by : (b : Bool) → starts_with nat_eq key front ≡ b
        → ((text_behind front key ≡ Some (drop (length front) key)) × (key ≡ front ++ drop (length front) key)) ⊎ (text_behind front key ≡ None)
    by true e = inl (ap (λ (c : Bool). if c then Some (drop (length front) key) else None) e, starts_so front key e)
    by false e = inr (ap (λ (c : Bool). if c then Some (drop (length front) key) else None) e)

pub text_there : (front text : List ℕ) → text_behind front (front ++ text) ≡ Some text
text_there front text = λ i. if starts_there front text i then Some (drop-append_seam front text i) else None

one_text : (front key text : List ℕ) → Among text (option_to_list (text_behind front key)) → key ≡ front ++ text
one_text front key text h = elim (either_text front key) [
  | inl found ↦ by (subst (λ (o : Option (List ℕ)). Among text (option_to_list o)) found.0 h) found.1
  | inr none ↦ absurd (subst (λ (o : Option (List ℕ)). Among text (option_to_list o)) none h)
]
  where
    by : (text ≡ drop (length front) key) ⊎ ⊥ → key ≡ front ++ drop (length front) key → key ≡ front ++ text
    by (inl same) is = is ∙ ap (λ (t : List ℕ). front ++ t) (sym same)
    by (inr never) is = absurd never

pub texts_told : (front : List ℕ) (xs : List Entry) (text : List ℕ) → Among text (texts_behind front xs) → (x : Entry) × Among x xs × (x.key ≡ front ++ text)
texts_told front xs text h =
    let x = among_flat (λ (y : Entry). option_to_list (text_behind front y.key)) text xs h in
    (x.0, x.1, one_text front x.0.key text x.2)

pub texts_there : (front : List ℕ) (xs : List Entry) (x : Entry) (text : List ℕ) → Among x xs → x.key ≡ front ++ text → Among text (texts_behind front xs)
texts_there front xs x text there is =
    among_each (λ (y : Entry). option_to_list (text_behind front y.key)) text x xs there
    (subst (λ (o : Option (List ℕ)). Among text (option_to_list o)) (sym (ap (text_behind front) is ∙ text_there front text)) (inl refl))

-- ---- they rise as the keys do

pub same_front : (front a b : List ℕ) → key_cmp (front ++ a) (front ++ b) ≡ key_cmp a b
same_front [] a b = refl
same_front (c ∷ front) a b = ap (λ (o : Ordering). ordering_then o (key_cmp (front ++ a) (front ++ b))) (tied_itself nat_cmp_total c) ∙ same_front front a b

each_behind : (front text : List ℕ) (xs : List Entry) → Each (λ k. IsUnder (front ++ text) k) (entry_keys xs) → Each (IsUnder text) (texts_behind front xs)
each_behind front text [] h = tt
each_behind front text (x ∷ xs) h = elim (either_text front x.key) [
  | inl found ↦
      subst (λ (o : Option (List ℕ)). Each (IsUnder text) (option_to_list o ++ texts_behind front xs)) (sym found.0)
      (sym (same_front front text (drop (length front) x.key)) ∙ ap (key_cmp (front ++ text)) (sym found.1) ∙ h.0, each_behind front text xs h.1)
  | inr none ↦ subst (λ (o : Option (List ℕ)). Each (IsUnder text) (option_to_list o ++ texts_behind front xs)) (sym none) (each_behind front text xs h.1)
]

pub texts_rise : (front : List ℕ) (xs : List Entry) → Rises (entry_keys xs) → Rises (texts_behind front xs)
texts_rise front [] h = tt
texts_rise front (x ∷ xs) h = elim (either_text front x.key) [
  | inl found ↦
      subst (λ (o : Option (List ℕ)). Rises (option_to_list o ++ texts_behind front xs)) (sym found.0)
      (each_behind front (drop (length front) x.key) xs (subst (λ (k : List ℕ). Each (λ l. IsUnder k l) (entry_keys xs)) found.1 h.0), texts_rise front xs h.1)
  | inr none ↦ subst (λ (o : Option (List ℕ)). Rises (option_to_list o ++ texts_behind front xs)) (sym none) (texts_rise front xs h.1)
]

-- ---- keys from one that goes on from a front

pub lower : (a b : List ℕ) → is_lt (key_cmp a b) ≡ false → IsUnder a b → ⊥
lower a b e under = let f : true ≡ false = sym (ap is_lt under) ∙ e in cc

-- they go on from it too, or are above all that do
pub front_or_above : (front key a : List ℕ) → is_lt (key_cmp key (front ++ a)) ≡ false
    → ((rest : List ℕ) × (key ≡ front ++ rest)) ⊎ ((b : List ℕ) → IsUnder (front ++ b) key)
front_or_above [] key a up = inl (key, refl)
front_or_above (c ∷ front) [] a up = absurd cc
front_or_above (c ∷ front) (b ∷ key) a up = by (nat_cmp b c) refl up (front_or_above front key a)
  where
    by : (o : Ordering) → nat_cmp b c ≡ o → is_lt (ordering_then o (key_cmp key (front ++ a))) ≡ false
        → (is_lt (key_cmp key (front ++ a)) ≡ false → ((rest : List ℕ) × (key ≡ front ++ rest)) ⊎ ((x : List ℕ) → IsUnder (front ++ x) key))
        → ((rest : List ℕ) × (b ∷ key ≡ c ∷ (front ++ rest))) ⊎ ((x : List ℕ) → IsUnder (c ∷ (front ++ x)) (b ∷ key))
    by Less e f later = absurd cc
    by Equal e f later = elim (later f) [
      | inl continues ↦ inl (continues.0, λ i. exact_unsigned b c e i ∷ continues.1 i)
      | inr above ↦
          inr (λ x. ap (λ (o : Ordering). ordering_then o (key_cmp (front ++ x) key)) (nat_cmp_total.antisymm c b ∙ ap ordering_reverse e) ∙ above x)
    ]
    by Greater e f later =
        inr (λ x. ap (λ (o : Ordering). ordering_then o (key_cmp (front ++ x) key)) (nat_cmp_total.antisymm c b ∙ ap ordering_reverse e))

-- between two that go on from it there is no other
pub front_between : (front key a b : List ℕ) → is_lt (key_cmp key (front ++ a)) ≡ false → IsUnder key (front ++ b) → (rest : List ℕ) × (key ≡ front ++ rest)
front_between front key a b up under = elim (front_or_above front key a up) [
  | inl continues ↦ continues
  | inr above ↦ absurd (not_under_itself key (under_trans key (front ++ b) key under (above b)))
]

-- each of these has a text then
pub all_told : (front a : List ℕ) (xs : List Entry) → ((x : Entry) → Among x xs → (rest : List ℕ) × (x.key ≡ front ++ rest))
    → length (texts_behind front xs) ≡ length xs
all_told front a [] each = refl
all_told front a (x ∷ xs) each =
    let continues = each x (inl refl) in
    ap (λ (o : Option (List ℕ)). length (option_to_list o ++ texts_behind front xs)) (ap (text_behind front) continues.1 ∙ text_there front continues.0)
    ∙ ap suc (all_told front a xs (λ y there. each y (inr there)))

-- and no more have one than there are
pub few_told : (front : List ℕ) (xs : List Entry) → length (texts_behind front xs) ≤ length xs
few_told front [] = omega arith
few_told front (x ∷ xs) = elim (either_text front x.key) [
  | inl found ↦ subst (λ (o : Option (List ℕ)). length (option_to_list o ++ texts_behind front xs) ≤ suc (length xs)) (sym found.0)
      (omega (arith, few_told front xs))
  | inr none ↦ subst (λ (o : Option (List ℕ)). length (option_to_list o ++ texts_behind front xs) ≤ suc (length xs)) (sym none)
      (omega (arith, few_told front xs))
]

-- ---- keys up to a text and all that goes on from it

below_there : (text last : List ℕ) → key_cmp (take (length last) text) last ≡ Less → IsUnder text last
below_there text [] e = absurd (at text e)
  where
    at : (text : List ℕ) → key_cmp (take 0 text) [] ≡ Less → ⊥
    at [] e = cc
    at (b ∷ text) e = cc
below_there [] (c ∷ last) e = refl
below_there (b ∷ text) (c ∷ last) e = by (nat_cmp b c) e (below_there text last)
  where
    by : (o : Ordering) → ordering_then o (key_cmp (take (length last) text) last) ≡ Less → (key_cmp (take (length last) text) last ≡ Less → IsUnder text last)
        → ordering_then o (key_cmp text last) ≡ Less
    by Less e later = refl
    by Equal e later = later e
    by Greater e later = absurd (let f : Greater ≡ Less = e in cc)

pub within_end : (front last text : List ℕ) (end : Option (List ℕ)) → IsEndOf (front ++ last) end → is_gt (key_cmp (take (length last) text) last) ≡ false
    → is_within end (front ++ text) ≡ true
within_end front last text None ends up = refl
within_end front last text (Some high) ends up = by (key_cmp (take (length last) text) last) refl up
  where
    under_high : (rest : List ℕ) → is_lt (key_cmp ((front ++ last) ++ rest) high) ≡ true
    under_high rest = ends rest

    less_of : (o : Ordering) → is_lt o ≡ true → o ≡ Less
    less_of Less e = refl
    less_of Equal e = absurd cc
    less_of Greater e = absurd cc

    by : (o : Ordering) → key_cmp (take (length last) text) last ≡ o → is_gt o ≡ false → is_lt (key_cmp (front ++ text) high) ≡ true
    by Less e f =
        ap is_lt (under_trans (front ++ text) (front ++ last) high (same_front front text last ∙ below_there text last e)
        (ap (λ (k : List ℕ). key_cmp k high) (sym (append-nil (front ++ last))) ∙ less_of (key_cmp ((front ++ last) ++ []) high) (under_high [])))
    by Equal e f =
        let rest : List ℕ = drop (length last) text in
        let is : text ≡ last ++ rest =
        sym (take-append-drop (length last) text) ∙ ap (λ (k : List ℕ). k ++ rest) (exact_bytes (take (length last) text) last e) in
        ap (λ (k : List ℕ). is_lt (key_cmp k high)) (ap (λ (t : List ℕ). front ++ t) is ∙ sym (append_assoc front last rest)) ∙ under_high rest
    by Greater e f = absurd cc

-- ---- the front of a range

-- This entry stands behind so many, and has the key.
pub record IsAfter (limit : ℕ) (entries rest : List Entry) (key : List ℕ) : Type 0 where
  pub after : Entry
  pub others : List Entry
  pub is : rest ≡ after ∷ others
  pub key_is : after.key ≡ key
  pub full : length entries ≡ limit

-- These entries stand at the front of all, which are these alone where no next key is told.
pub record IsFront (limit : ℕ) (all entries : List Entry) (next : Option (List ℕ)) : Type 0 where
  pub rest : List Entry
  pub is : all ≡ entries ++ rest
  pub few : length entries ≤ limit
  pub behind : MatchOption next (rest ≡ []) (IsAfter limit entries rest)

pub front_of : (limit : ℕ) (all entries : List Entry) (next : Option (List ℕ)) → IsBatch limit all entries next → IsFront limit all entries next
front_of limit all entries None h = record { rest = []; is = sym h.0 ∙ sym (append-nil entries); few = h.1; behind = refl }
front_of limit all entries (Some key) h = record {
  rest = h.next ∷ h.others;
  is = h.is;
  few = omega (arith, h.full);
  behind = record { after = h.next; others = h.others; is = refl; key_is = h.key_is; full = h.full };
}

each_front : (P : List ℕ → Type 0) (xs ys : List Entry) → Each P (entry_keys (xs ++ ys)) → Each P (entry_keys xs)
each_front P [] ys h = tt
each_front P (x ∷ xs) ys h = (h.0, each_front P xs ys h.1)

pub rises_front : (xs ys : List Entry) → Rises (entry_keys (xs ++ ys)) → Rises (entry_keys xs)
rises_front [] ys h = tt
rises_front (x ∷ xs) ys h = (each_front (IsUnder x.key) xs ys h.0, rises_front xs ys h.1)

pub each_back : (P : List ℕ → Type 0) (xs ys : List Entry) (y : Entry) → Each P (entry_keys (xs ++ ys)) → Among y ys → P y.key
each_back P [] (z ∷ ys) y h (inl e) = subst (λ (x : Entry). P x.key) (sym e) h.0
each_back P [] (z ∷ ys) y h (inr g) = each_back P [] ys y h.1 g
each_back P [] [] y h g = absurd g
each_back P (x ∷ xs) ys y h g = each_back P xs ys y h.1 g

pub rises_back : (xs ys : List Entry) → Rises (entry_keys (xs ++ ys)) → Rises (entry_keys ys)
rises_back [] ys h = h
rises_back (x ∷ xs) ys h = rises_back xs ys h.1

-- one at the front is below one behind it
pub front_below : (xs ys : List Entry) (x y : Entry) → Rises (entry_keys (xs ++ ys)) → Among x xs → Among y ys → IsUnder x.key y.key
front_below [] ys x y h g k = absurd g
front_below (z ∷ xs) ys x y h (inl e) k = subst (λ (w : Entry). IsUnder w.key y.key) (sym e) (each_back (IsUnder z.key) xs ys y h.0 k)
front_below (z ∷ xs) ys x y h (inr g) k = front_below xs ys x y h.1 g k
