-- Keys that go on from a front, and the range that holds them.
use Rattle.std.proofs.Common.{◌≡◌, ℕ, zero, suc, ◌+◌, ◌<◌, ◌≤◌, Bool, true, false, not, ◌&&◌, List, [], ◌∷◌, ◌++◌, length, take, drop, get_or, ◌⊎◌, inl, inr}
use Rattle.std.proofs.Common.{refl, sym, ap, subst, ◌∙◌, arith}
use Rattle.std.specs.Prelude.{nat_eq}
use Rattle.std.specs.List.{starts_with}
use Rattle.std.specs.Ordering.{ordering_then, is_lt}
use Rattle.std.specs.Cmp.{nat_cmp_is}
use Rattle.std.specs.Str.{bytes_eq}
use Rattle.std.specs.declared.cmp.Ordering.{Ordering}
use Rattle.std.specs.declared.cmp.Ordering.TheVariants.{Less, Greater}
use Rattle.std.proofs.lemmas.Bool.{cases_lt}
use Rattle.std.proofs.lemmas.Bool.Decides.{Decides-eqb}
use Rattle.std.proofs.lemmas.Cmp.{nat_cmp_total, tied_itself}
use Rattle.std.proofs.Math.Seq.{drop-append_seam}
use Rattle.std.proofs.lemmas.Slice.Eq.{bytes_eq-Decides, starts_is}
use Rattle.tree_model.specs.Keys.{key_cmp}
use Rattle.entries.specs.OtherKeys.{is_another}

-- ---- going on from a front

pub record GoesOn (front key : List ℕ) : Type 0 where
  pub rest : List ℕ
  pub is : key ≡ front ++ rest

pub starts_so : (front key : List ℕ) → starts_with nat_eq key front ≡ true → key ≡ front ++ drop (length front) key
starts_so front key e = (starts_is Decides-eqb key front (starts_with nat_eq key front) refl).0 e

pub starts_there : (front rest : List ℕ) → starts_with nat_eq (front ++ rest) front ≡ true
starts_there front rest = (starts_is Decides-eqb (front ++ rest) front (starts_with nat_eq (front ++ rest) front) refl).1 rest refl

both_true : (a b : Bool) → (a && b) ≡ true → (a ≡ true) × (b ≡ true)
both_true true b e = (refl, e)
both_true false b e = absurd cc

-- by another text
pub record IsAnother (front id key : List ℕ) : Type 0 where
  pub rest : List ℕ
  pub is : key ≡ front ++ rest
  pub other : rest ≡ id → ⊥

pub another_told : (front id key : List ℕ) → is_another front id key ≡ true → IsAnother front id key
another_told front id key e =
    let told = both_true (starts_with nat_eq key front) (not (bytes_eq (drop (length front) key) id)) e in
    record {
      rest = drop (length front) key;
      is = starts_so front key told.0;
      other = λ same. not_true (bytes_eq (drop (length front) key) id) told.1 ((bytes_eq-Decides (drop (length front) key) id).1 same);
    }
  where
    not_true : (b : Bool) → not b ≡ true → b ≡ true → ⊥
    not_true true e f = cc
    not_true false e f = cc

pub another_there : (front id rest : List ℕ) → (rest ≡ id → ⊥) → is_another front id (front ++ rest) ≡ true
another_there front id rest other =
    (λ i. starts_there front rest i && not (bytes_eq (drop-append_seam front rest i) id)) ∙ by (bytes_eq rest id) refl
  where
    by : (b : Bool) → bytes_eq rest id ≡ b → not b ≡ true
    by true e = absurd (other ((bytes_eq-Decides rest id).0 e))
    by false e = refl

-- ---- the range

head_same : (b : ℕ) (x y : List ℕ) → key_cmp (b ∷ x) (b ∷ y) ≡ key_cmp x y
head_same b x y = ap (λ (o : Ordering). ordering_then o (key_cmp x y)) (tied_itself nat_cmp_total b)

pub not_under_front : (front rest : List ℕ) → is_lt (key_cmp (front ++ rest) front) ≡ false
not_under_front [] [] = refl
not_under_front [] (c ∷ rest) = refl
not_under_front (b ∷ front) rest = ap is_lt (head_same b (front ++ rest) front) ∙ not_under_front front rest

-- what is above the byte at a place is above all that goes on from the front
pub under_end : (front : List ℕ) (at d : ℕ) (rest : List ℕ) → at < length front
    → is_lt (key_cmp (front ++ rest) (take at front ++ (get_or front at d + 1) ∷ [])) ≡ true
under_end [] at d rest lt = absurd (omega (arith, lt))
under_end (b ∷ front) zero d rest lt =
    let next : b < b + 1 = omega arith in
    ap (λ (o : Ordering). is_lt (ordering_then o (key_cmp (front ++ rest) []))) (sym (nat_cmp_is b (b + 1) Less next))
under_end (b ∷ front) (suc at) d rest lt =
    ap is_lt (head_same b (front ++ rest) (take at front ++ (get_or front at d + 1) ∷ [])) ∙ under_end front at d rest (omega (arith, lt))

-- between a front and what goes on from it stands nothing else
pub goes_on_between : (front key rest : List ℕ) → is_lt (key_cmp key front) ≡ false → key_cmp key (front ++ rest) ≡ Less → GoesOn front key
goes_on_between [] key rest above below = record { rest = key; is = refl }
goes_on_between (b ∷ front) [] rest above below = absurd (let e : true ≡ false = above in cc)
goes_on_between (b ∷ front) (c ∷ key) rest above below = by (cases_lt c b) (cases_lt b c) (goes_on_between front key rest)
  where
    by : (c < b) ⊎ (b ≤ c) → (b < c) ⊎ (c ≤ b) → (is_lt (key_cmp key front) ≡ false → key_cmp key (front ++ rest) ≡ Less → GoesOn front key)
        → GoesOn (b ∷ front) (c ∷ key)
    by (inl less) q extends =
        absurd (let e : true ≡ false = ap (λ (o : Ordering). is_lt (ordering_then o (key_cmp key front))) (nat_cmp_is c b Less less) ∙ above in cc)
    by (inr p) (inl more) extends =
        absurd (let e : Greater ≡ Less = ap (λ (o : Ordering). ordering_then o (key_cmp key (front ++ rest))) (nat_cmp_is c b Greater more) ∙ below in cc)
    by (inr p) (inr q) extends =
        let same : c ≡ b = omega (arith, p, q) in
        let later = extends
        (sym (ap is_lt (head_same b key front)) ∙ subst (λ (n : ℕ). is_lt (key_cmp (n ∷ key) (b ∷ front)) ≡ false) same above)
        (sym (head_same b key (front ++ rest)) ∙ subst (λ (n : ℕ). key_cmp (n ∷ key) (b ∷ (front ++ rest)) ≡ Less) same below) in
        record { rest = later.rest; is = λ i. same i ∷ later.is i }
