-- Bytes are all zero where the first is and each other is what the one before it is.
use Rattle.std.specs.Prelude.{◌≢◌}
use Rattle.std.proofs.Common.{◌≡◌, ◌∙◌, ◌+◌, ◌-◌, ◌≤◌, ℕ, zero, suc, Bool, true, false, List, [], ◌∷◌, length, take, drop, refl, ap, arith, inl, inr}
use Rattle.std.specs.Prelude.{◌==◌, ◌&&◌, nat_eq, slice_index_or}
use Rattle.std.specs.List.{list_all}
use Rattle.std.specs.Cmp.Lexicographic.{pointwise}
use Rattle.std.proofs.lemmas.Bool.{cases_Bool}
use Rattle.std.proofs.lemmas.List.{take_all}
use Rattle.std.proofs.lemmas.Bool.Decides.{nat_tests}
use Rattle.page.specs.Format.{are_zeros}

as_before : (b : ℕ) (bytes : List ℕ) → pointwise nat_eq bytes (take (length bytes) (b ∷ bytes)) ≡ list_all (λ x. x == b) bytes
as_before b [] = refl
as_before b (x ∷ rest) = elim (cases_Bool (x == b)) [
  | inl so ↦
      let same : x ≡ b = grind (arith, nat_tests) in
      rw so (as_before x rest ∙ ap (λ (y : ℕ). list_all (λ z. z == y) rest) same)
  | inr not_so ↦ rw not_so refl
]

pub zeros_by_before : (bytes : List ℕ) → slice_index_or bytes 0 0 ≡ 0 → length bytes ≢ 0
    → pointwise nat_eq (take (length bytes - 1) (drop 1 bytes)) (take (length (take (length bytes - 1) (drop 1 bytes))) bytes) ≡ are_zeros bytes
zeros_by_before [] first some = absurd (some refl)
zeros_by_before (x ∷ rest) first some =
    let all : take (length (x ∷ rest) - 1) rest ≡ rest = take_all (length (x ∷ rest) - 1) rest (omega arith) in
    rw all (rw first (as_before 0 rest))
