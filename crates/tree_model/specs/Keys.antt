-- Keys are lists of bytes in rising order, where what has ended is below what goes on.
use Rattle.std.specs.Prelude.{◌≡◌, ℕ, ◌+◌, ⊤, Bool, true, not, ◌&&◌, List, [], ◌∷◌, ◌++◌, Option}
use Rattle.std.specs.Prelude.{Some, None, ◌==◌, if◌then◌else◌, map}
use Rattle.std.specs.declared.cmp.Ordering.{Ordering}
use Rattle.std.specs.declared.cmp.Ordering.TheVariants.{Less}
use Rattle.std.specs.Ordering.{nat_cmp, is_lt, is_eq}
use Rattle.std.specs.Cmp.Lexicographic.{slice_cmp}

abbrev pub key_cmp : List ℕ → List ℕ → Ordering
key_cmp = slice_cmp nat_cmp

abbrev pub IsUnder : List ℕ → List ℕ → Type 0
IsUnder a b = key_cmp a b ≡ Less

abbrev pub IsNotUnder : List ℕ → List ℕ → Type 0
IsNotUnder a b = IsUnder a b → ⊥

-- below a bound, of which there may be none
abbrev pub IsWithin : Option (List ℕ) → List ℕ → Type 0
IsWithin None key = ⊤
IsWithin (Some high) key = IsUnder key high

-- from the low bound up to below the high one
abbrev pub IsBetween : List ℕ → Option (List ℕ) → List ℕ → Type 0
IsBetween low high key = IsNotUnder key low × IsWithin high key

-- not below a bound
abbrev pub IsPast : Option (List ℕ) → List ℕ → Type 0
IsPast None key = ⊥
IsPast (Some high) key = IsNotUnder key high

abbrev pub Each : {X : Type 0} → (X → Type 0) → List X → Type 0
Each P [] = ⊤
Each P (x ∷ xs) = P x × Each P xs

-- how often n stands in the list
abbrev pub times : ℕ → List ℕ → ℕ
times n [] = 0
times n (x ∷ xs) = (if n == x then 1 else 0) + times n xs

abbrev pub sum_of : {X : Type 0} → (X → ℕ) → List X → ℕ
sum_of f [] = 0
sum_of f (x ∷ xs) = f x + sum_of f xs

-- A key and its value; `links` are the pages of the value's chain, if it has one.
pub record Pair : Type 0 where
  pub key : List ℕ
  pub value : List ℕ
  pub links : List ℕ

-- a key and its value alone
pub record Entry : Type 0 where
  pub key : List ℕ
  pub value : List ℕ

abbrev pub entry_of : Pair → Entry
entry_of x = record { key = x.key; value = x.value }

abbrev pub keep_if : {X : Type 0} → Bool → X → List X → List X
keep_if b x xs = if b then x ∷ xs else xs

-- the entries with keys below this one, and above it
abbrev pub before : List ℕ → List Entry → List Entry
before key [] = []
before key (x ∷ xs) = keep_if (is_lt (key_cmp x.key key)) x (before key xs)

abbrev pub behind : List ℕ → List Entry → List Entry
behind key [] = []
behind key (x ∷ xs) = keep_if (is_lt (key_cmp key x.key)) x (behind key xs)

-- a value that is put at a key, or none, where the key is removed
pub record Edit : Type 0 where
  pub key : List ℕ
  pub value : Option (List ℕ)

abbrev pub entries_at : List ℕ → Option (List ℕ) → List Entry
entries_at key None = []
entries_at key (Some value) = record { key = key; value = value } ∷ []

-- the map after an edit, and after a list of edits, one after the other
abbrev pub edit_map : Edit → List Entry → List Entry
edit_map e entries = before e.key entries ++ (entries_at e.key e.value ++ behind e.key entries)

abbrev pub change : List Edit → List Entry → List Entry
change [] entries = entries
change (e ∷ es) entries = change es (edit_map e entries)

-- the pair at a key, and the value there
abbrev pub find : List ℕ → List Pair → Option Pair
find key [] = None
find key (x ∷ xs) = if is_eq (key_cmp x.key key) then Some x else find key xs

abbrev pub value_at : List ℕ → List Entry → Option (List ℕ)
value_at key [] = None
value_at key (x ∷ xs) = if is_eq (key_cmp x.key key) then Some x.value else value_at key xs

-- the entries from a key up to below another
abbrev pub is_within : Option (List ℕ) → List ℕ → Bool
is_within None key = true
is_within (Some high) key = is_lt (key_cmp key high)

abbrev pub window : List ℕ → Option (List ℕ) → List Entry → List Entry
window from to [] = []
window from to (x ∷ xs) =
    keep_if (not (is_lt (key_cmp x.key from)) && is_within to x.key) x (window from to xs)

-- they rise strictly
abbrev pub Rises : List (List ℕ) → Type 0
Rises [] = ⊤
Rises (x ∷ xs) = Each (λ y. IsUnder x y) xs × Rises xs

-- ---- edits

-- the keys of edits
abbrev pub edit_keys : List Edit → List (List ℕ)
edit_keys edits = map (λ e. e.key) edits

-- a value put at a key, and a key removed
abbrev pub put : List ℕ → List ℕ → Edit
put key value = record { key = key; value = Some value }

abbrev pub removal : List ℕ → Edit
removal key = record { key = key; value = None }
