-- A name is looked up among those alone that are about as long.
use Rattle.std.proofs.Common.{◌≡◌, ℕ, ◌<◌, ◌≤◌, Bool, true, false, List, [], ◌∷◌, length, Option, Some, refl, ap, arith}
use Rattle.std.specs.Prelude.{◌&&◌, nat_le, nat_lt, if◌then◌else◌}
use Rattle.std.specs.List.{filter}
use Rattle.std.specs.Str.{bytes_eq}
use Rattle.std.proofs.lemmas.Bool.Decides.{nat_tests}
use Rattle.std.proofs.lemmas.Slice.Eq.{bytes_eq-Decides}
use Rattle.driver_replies.specs.Tables.{beside}

-- a word of another length is another one
other_length : (p : ℕ → Bool) (name word : List ℕ) → p (length name) ≡ true → p (length word) ≡ false → bytes_eq name word ≡ false
other_length p name word e f = at (bytes_eq name word) refl
  where
    at : (b : Bool) → bytes_eq name word ≡ b → bytes_eq name word ≡ false
    at false is = is
    at true is =
        let same : name ≡ word = (bytes_eq-Decides name word).0 is in
        let both : p (length name) ≡ p (length word) = ap (λ (s : List ℕ). p (length s)) same in absurd cc

-- The rows whose words pass a test of their length, which the name's length passes too, say what all of them say.
by_length : {X : Type 0} (p : ℕ → Bool) (rows : List (List ℕ × X)) (name : List ℕ) → p (length name) ≡ true
    → beside (filter (λ row. p (length row.0)) rows) name ≡ beside rows name
by_length p [] name e = refl
by_length {X} p (row ∷ rows) name e = at (p (length row.0)) refl (by_length p rows name e)
  where
    at : (b : Bool) → p (length row.0) ≡ b → beside (filter (λ (r : List ℕ × X). p (length r.0)) rows) name ≡ beside rows name
        → beside (filter (λ (r : List ℕ × X). p (length r.0)) (row ∷ rows)) name ≡ beside (row ∷ rows) name
    at true is later = rw is (ap (λ (x : Option X). if bytes_eq name row.0 then Some row.1 else x) later)
    at false is later = rw (is, other_length p name row.0 e is) later

pub from_length : {X : Type 0} (low : ℕ) (rows : List (List ℕ × X)) (name : List ℕ) → low ≤ length name
    → beside (filter (λ row. nat_le low (length row.0)) rows) name ≡ beside rows name
from_length low rows name least = by_length (nat_le low) rows name (grind (arith, nat_tests))

pub between_lengths : {X : Type 0} (low high : ℕ) (rows : List (List ℕ × X)) (name : List ℕ) → low ≤ length name → length name < high
    → beside (filter (λ row. nat_le low (length row.0) && nat_lt (length row.0) high) rows) name ≡ beside rows name
between_lengths low high rows name least most =
    let from : nat_le low (length name) ≡ true = grind (arith, nat_tests) in
    let to : nat_lt (length name) high ≡ true = grind (arith, nat_tests) in
    by_length (λ n. nat_le low n && nat_lt n high) rows name (rw (from, to) refl)
