-- A name of ASCII is text.
use Rattle.std.proofs.Common.{◌≡◌, ◌⊎◌, inl, inr, ℕ, zero, suc, ◌+◌, ◌<◌, ◌≤◌, Bool, true, false}
use Rattle.std.proofs.Common.{◌||◌, ◌==◌, List, [], ◌∷◌, length, get_or, take, drop, Some, None, Ok, Err}
use Rattle.std.proofs.Common.{refl, sym, subst, ap, arith, eq-eqb}
use Rattle.std.specs.Prelude.{IsUtf8, nat_le, not, position}
use Rattle.std.specs.Str.{IsAscii, is_utf8}
use Rattle.std.specs.List.{position_or_len}
use Rattle.std.proofs.lemmas.Bool.{cases_lt}
use Rattle.std.proofs.lemmas.Grind.{common_steps}
use Rattle.std.proofs.lemmas.List.{length-take, get_or-take}
use Rattle.std.proofs.lemmas.List.Quantifiers.{position-Some}
use Rattle.std.proofs.lemmas.List.Sums.{position_or_len_is}
use Rattle.std.proofs.lemmas.Str.{is_utf8-from_IsUtf8, IsUtf8-from_is_utf8, IsUtf8-from_ascii}
use Rattle.std.proofs.lemmas.Str.Ascii.{IsAscii-from_reads}
use Rattle.outcome.specs.Outcome.{unless}
use Rattle.bson_bytes.specs.declared.fault.BsonFault.TheVariants as faults
use Rattle.bson_bytes.specs.Decoding.{zero_at, name_at}
use Rattle.bson.proofs.PushLaws.{or_false}
use Rattle.bson_bytes.proofs.FrameLaws.{zero_later}

-- a byte before which a name of ASCII ends, or which isn't ASCII
abbrev pub stops : ℕ → Bool
stops b = b == 0 || nat_le 128 b

pub below : (b : ℕ) → nat_le 128 b ≡ false → b < 128
below b e = grind arith

above : (a b : ℕ) → b < a → nat_le a b ≡ false
above a b lt = grind arith

not_within : (a b : ℕ) → a ≤ b → nat_le a b ≡ true
not_within a b le = grind arith

pub plain_name : (bytes : List ℕ) (i : ℕ) → position stops bytes ≡ Some i → get_or bytes i 0 ≡ 0 → name_at bytes ≡ Ok (take i bytes, drop (i + 1) bytes)
unfolding name_at
plain_name bytes i found here =
    let at = position-Some stops bytes i 0 found in
    let place : zero_at bytes ≡ i = position_or_len_is (λ b. b == 0) bytes i 0 (omega (arith, at.0))
    (λ k lt. (or_false (get_or bytes k 0 == 0) (nat_le 128 (get_or bytes k 0)) (at.2 k lt)).0) (λ lt. eq-eqb (get_or bytes i 0) 0 here) in
    let ascii : IsAscii (take i bytes) = IsAscii-from_reads (take i bytes) i (omega (arith, length-take i bytes))
    (λ k lt. subst (λ (b : ℕ). b < 128) (sym (get_or-take i bytes k 0 lt))
    (below (get_or bytes k 0) (or_false (get_or bytes k 0 == 0) (nat_le 128 (get_or bytes k 0)) (at.2 k lt)).1)) in
    let text : is_utf8 (take i bytes) ≡ true = is_utf8-from_IsUtf8 (take i bytes) (IsUtf8-from_ascii (take i bytes) ascii) in
    rw (place, above (length bytes) i at.0, text) refl

stops_before : (bytes : List ℕ) → position_or_len stops bytes ≤ zero_at bytes
stops_before [] = omega arith
stops_before (zero ∷ bytes) = grind (arith, common_steps)
stops_before (suc b ∷ bytes) =
    let later = zero_later b bytes in
    let others = stops_before bytes in
    grind (arith, common_steps)

pub no_name_end : (bytes : List ℕ) → position stops bytes ≡ None → name_at bytes ≡ Err faults.Name
unfolding name_at
no_name_end bytes none =
    let all : length bytes ≤ position_or_len stops bytes = grind (arith, common_steps) in
    rw (not_within (length bytes) (zero_at bytes) (omega (arith, all, stops_before bytes))) refl

-- ---- the first byte that stops, as a loop finds it

stopped : (b : ℕ) → (b ≡ 0 → ⊥) → b < 128 → stops b ≡ false
stopped b pos lt = grind arith

-- one byte more that doesn't stop
pub plain_more : (bytes : List ℕ) (n : ℕ) → ((k : ℕ) → k < n → stops (get_or bytes k 0) ≡ false) → (get_or bytes n 0 ≡ 0 → ⊥) → get_or bytes n 0 < 128
    → (k : ℕ) → k < n + 1 → stops (get_or bytes k 0) ≡ false
plain_more bytes n plain pos lt k le = by (cases_lt k n)
  where
    by : (k < n) ⊎ (n ≤ k) → stops (get_or bytes k 0) ≡ false
    by (inl less) = plain k less
    by (inr last) = subst (λ (i : ℕ). stops (get_or bytes i 0) ≡ false) (let same : n ≡ k = omega arith in same) (stopped (get_or bytes n 0) pos lt)

stopping : (b : ℕ) → (b ≡ 0) ⊎ ((b ≡ 0 → ⊥) × (128 ≤ b)) → stops b ≡ true
stopping b (inl zero_byte) = grind arith
stopping b (inr wide) =
    let le = wide.1 in
    grind arith

pub stops_first : (bytes : List ℕ) (n : ℕ) → n < length bytes → ((k : ℕ) → k < n → stops (get_or bytes k 0) ≡ false)
    → (get_or bytes n 0 ≡ 0) ⊎ ((get_or bytes n 0 ≡ 0 → ⊥) × (128 ≤ get_or bytes n 0)) → position stops bytes ≡ Some n
stops_first bytes n lt plain here =
    let place : position_or_len stops bytes ≡ n = position_or_len_is stops bytes n 0 (omega arith) plain (λ _. stopping (get_or bytes n 0) here) in
    grind (arith, common_steps)

pub stops_nowhere : (bytes : List ℕ) (n : ℕ) → length bytes ≤ n → n ≤ length bytes → ((k : ℕ) → k < n → stops (get_or bytes k 0) ≡ false)
    → position stops bytes ≡ None
stops_nowhere bytes n most least plain =
    let place : position_or_len stops bytes ≡ n = position_or_len_is stops bytes n 0 least plain (λ lt. absurd (omega arith)) in
    grind (arith, common_steps)

-- what is read as a name is text
pub name_text : (bytes name rest : List ℕ) → name_at bytes ≡ Ok (name, rest) → IsUtf8 name
unfolding name_at
name_text bytes name rest e = at (nat_le (length bytes) (zero_at bytes)) (is_utf8 (take (zero_at bytes) bytes)) refl e
  where
    at : (short text : Bool) → is_utf8 (take (zero_at bytes) bytes) ≡ text
        → unless {X = List ℕ × List ℕ} short faults.Name
        (unless {X = List ℕ × List ℕ} (not text) faults.Name (Ok (take (zero_at bytes) bytes, drop (zero_at bytes + 1) bytes))) ≡ Ok (name, rest)
        → IsUtf8 name
    at true text is e = absurd cc
    at false false is e = absurd cc
    at false true is e =
        let both : (take (zero_at bytes) bytes, drop (zero_at bytes + 1) bytes) ≡ (name, rest) = cc in
        let same : take (zero_at bytes) bytes ≡ name = ap (λ (x : List ℕ × List ℕ). x.0) both in
        subst IsUtf8 same (IsUtf8-from_is_utf8 (take (zero_at bytes) bytes) is)
