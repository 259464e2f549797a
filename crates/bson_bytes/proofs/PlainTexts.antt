-- Bytes that are ASCII, 16 of them at a time.
use Rattle.std.proofs.Common.{◌≡◌, ◌⊎◌, inl, inr, ℕ, ◌+◌, ◌^◌, ◌<◌, ◌≤◌, Bool, true, cond, List, length, get_or, map, w8, sym, ap, ◌∙◌, arith}
use Rattle.std.specs.Prelude.{◌%◌, nat_le, nat_eq, replicate}
use Rattle.std.specs.Simd.Lanes.{zip2, chunk, mask_l, top}
use Rattle.std.specs.Str.{is_utf8}
use Rattle.std.proofs.lemmas.Bool.{cases_lt}
use Rattle.std.proofs.lemmas.List.{length-map}
use Rattle.std.proofs.lemmas.Simd.{length-chunk, tops_compared, zip2_splat_left, mask_l-mod, none_from_empty_mask}
use Rattle.std.proofs.lemmas.Str.{is_utf8-from_IsUtf8, IsUtf8-from_ascii}
use Rattle.std.proofs.lemmas.Str.Ascii.{IsAscii-from_reads}
use Rattle.bson_bytes.proofs.PlainNames.{below}

none_set : (n : ℕ) → nat_eq n 0 ≡ true → n ≡ 0
none_set n e = grind arith

-- where no lane is 128 or more, 16 bytes are ASCII
pub lanes_plain : (bytes : List ℕ) (at : ℕ) → at + 16 ≤ length bytes
    → nat_eq (mask_l (map (top 7) (zip2 (λ (a b : ℕ). cond (nat_le a b) 255 0) (replicate 16 128) (chunk at 16 bytes))) % 2 ^ 64) 0 ≡ true
    → (k : ℕ) → at ≤ k → k < at + 16 → get_or bytes k 0 < 128
lanes_plain bytes at room e k from to =
    let xs = chunk at 16 bytes in
    let lanes : length xs ≡ 16 = length-chunk at 16 bytes room in
    let same : map (top 7) (zip2 (λ (a b : ℕ). cond (nat_le a b) 255 0) (replicate 16 128) xs) ≡ map (nat_le 128) xs =
    tops_compared w8 nat_le (replicate 16 128) xs ∙ zip2_splat_left nat_le 128 16 xs lanes in
    let none : mask_l (map (nat_le 128) xs) ≡ 0 =
    sym (mask_l-mod (map (nat_le 128) xs) 64 (omega (arith, length-map xs (nat_le 128), lanes))) ∙ ap (λ (ms : List Bool). mask_l ms % 2 ^ 64) (sym same)
    ∙ none_set _ e in
    below (get_or bytes k 0) (none_from_empty_mask (nat_le 128) bytes at 16 0 room none k from to)

-- one step of 16 bytes
pub plain_step : (bytes : List ℕ) (at : ℕ) → ((k : ℕ) → k < at → get_or bytes k 0 < 128) → ((k : ℕ) → at ≤ k → k < at + 16 → get_or bytes k 0 < 128)
    → (k : ℕ) → k < at + 16 → get_or bytes k 0 < 128
plain_step bytes at before here k lt = by (cases_lt k at)
  where
    by : (k < at) ⊎ (at ≤ k) → get_or bytes k 0 < 128
    by (inl less) = before k less
    by (inr more) = here k more lt

-- the last 16 bytes, which may be among those before
pub plain_text : (bytes : List ℕ) (at last : ℕ) → last + 16 ≡ length bytes → last ≤ at → ((k : ℕ) → k < at → get_or bytes k 0 < 128)
    → ((k : ℕ) → last ≤ k → k < last + 16 → get_or bytes k 0 < 128) → is_utf8 bytes ≡ true
plain_text bytes at last size le before here =
    is_utf8-from_IsUtf8 bytes (IsUtf8-from_ascii bytes (IsAscii-from_reads bytes (length bytes) (omega arith) (λ k lt. by k lt (cases_lt k at))))
  where
    by : (k : ℕ) → k < length bytes → (k < at) ⊎ (at ≤ k) → get_or bytes k 0 < 128
    by k lt (inl less) = before k less
    by k lt (inr more) = here k (omega arith) (omega arith)
