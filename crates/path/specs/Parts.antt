-- A path is parts joined by dots. A part isn't empty, doesn't begin with `$` and has no zero byte,
-- and a path has at most 255 bytes.
use Rattle.std.specs.Prelude.{ℕ, ◌≡◌, ◌+◌, ◌-◌, ◌*◌, ◌==◌, nat_lt, nat_le, ◌&&◌, ◌||◌, Bool, true}
use Rattle.std.specs.Prelude.{false, if◌then◌else◌, Option, Some, None, Result, List, [], ◌∷◌}
use Rattle.std.specs.Prelude.{length}
use Rattle.outcome.specs.Outcome.{fault_or}
use Rattle.std.specs.Str.{bytes_eq}
use Rattle.std.specs.List.{slice_split, list_any, list_all}
use Rattle.bson.specs.Lawful.{IsName}
use Rattle.path.specs.declared.fault.PathFault.{PathFault}
use Rattle.path.specs.declared.fault.PathFault.TheVariants as faults

-- what stands before, between and behind the dots
abbrev pub parts_of : List ℕ → List (List ℕ)
parts_of text = slice_split (λ b. b == 46) text

abbrev pub is_empty : List ℕ → Bool
is_empty [] = true
is_empty (b ∷ bs) = false

abbrev pub begins_with_dollar : List ℕ → Bool
begins_with_dollar [] = false
begins_with_dollar (b ∷ bs) = b == 36

abbrev pub has_zero : List ℕ → Bool
has_zero name = list_any (λ b. b == 0) name

-- the first of the faults that a text with these parts has
abbrev pub path_fault : List ℕ → List (List ℕ) → Option PathFault
path_fault text parts =
    if is_empty text then Some faults.Empty else
    if list_any is_empty parts then Some faults.EmptyPart else
    if list_any begins_with_dollar parts then Some faults.Dollar else
    if nat_lt 255 (length text) then Some faults.TooLong else
    if list_any has_zero parts then Some faults.Zero else
    None

abbrev pub path_of : List ℕ → Result (List (List ℕ)) PathFault
path_of text = fault_or (path_fault text (parts_of text)) (parts_of text)

-- ---- what a part is

pub record IsPart (name : List ℕ) : Type 0 where
  pub is_name : IsName name
  pub not_empty : is_empty name ≡ false
  pub no_dollar : begins_with_dollar name ≡ false

-- the tests that a part passes, apart from being a text
pub record Passes (name : List ℕ) : Type 0 where
  pub not_empty : is_empty name ≡ false
  pub no_dollar : begins_with_dollar name ≡ false
  pub no_zero : has_zero name ≡ false

-- the part is decimal digits
abbrev pub is_digits : List ℕ → Bool
is_digits name = list_all (λ b. nat_le 48 b && nat_le b 57) name

-- the number that digits write, behind those that wrote n
abbrev pub number : ℕ → List ℕ → ℕ
number n [] = n
number n (b ∷ bs) = number (n * 10 + (b - 48)) bs

-- digits behind a zero
abbrev pub leads_with_zero : List ℕ → Bool
leads_with_zero [] = false
leads_with_zero (b ∷ []) = false
leads_with_zero (b ∷ c ∷ bs) = b == 48

-- the index of an array that the part names, where it is `0` or digits without a leading zero
abbrev pub index_of : List ℕ → Option ℕ
index_of name =
    if leads_with_zero name then None else if is_digits name then Some (number 0 name) else None

-- the path is the other one or leads to it
abbrev pub is_front : List (List ℕ) → List (List ℕ) → Bool
is_front [] others = true
is_front (name ∷ names) [] = false
is_front (name ∷ names) (other ∷ others) = bytes_eq name other && is_front names others

-- one of the two is the other or leads to it
abbrev pub meets : List (List ℕ) → List (List ℕ) → Bool
meets a b = is_front a b || is_front b a
