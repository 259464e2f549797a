-- Where the text of a value ends, told by its bytes alone: what stands behind the texts of an
-- entry's key is the text of the `_id`.
use Rattle.std.specs.Prelude.{ℕ, zero, suc, ◌+◌, ◌-◌, ◌==◌, nat_lt, Bool, true, false}
use Rattle.std.specs.Prelude.{if◌then◌else◌, Option, Some, None, List, [], ◌∷◌, length, take, drop}
use Rattle.std.specs.Prelude.{map}
use Rattle.std.specs.Int.{w32, from_be_bytes}
use Rattle.std.specs.Option.{option_and_then}
use Rattle.value_order.specs.declared.texts.Direction.{Direction}
use Rattle.value_order.specs.declared.texts.Direction.TheVariants.{Ascending, Descending}
use Rattle.index.specs.Definition.{Field}

-- a byte of a text in a direction, as the ascending text has it
abbrev pub plain : Direction → ℕ → ℕ
plain Ascending b = b
plain Descending b = 255 - b

-- ---- behind what holds no other value

abbrev pub behind : ℕ → List ℕ → Option (List ℕ)
behind n bytes = if nat_lt (length bytes) n then None else Some (drop n bytes)

-- a zero ends a name
abbrev pub behind_name : Direction → List ℕ → Option (List ℕ)
behind_name d [] = None
behind_name d (b ∷ bs) = if plain d b == 0 then Some bs else behind_name d bs

-- two zeros end a string; a zero and another byte are in it
abbrev pub behind_string : Direction → Bool → List ℕ → Option (List ℕ)
behind_string d after_zero [] = None
behind_string d after_zero (b ∷ bs) =
    if plain d b == 0 then (if after_zero then Some bs else behind_string d true bs)
    else behind_string d false bs

-- the number in the first four bytes
abbrev pub number_in : Direction → List ℕ → ℕ
number_in d bytes = from_be_bytes w32 (map (plain d) (take 4 bytes))

-- a binary's length, subtype and bytes
abbrev pub behind_binary : Direction → List ℕ → Option (List ℕ)
behind_binary d bytes =
    if nat_lt (length bytes) 4 then None else behind (number_in d bytes + 1) (drop 4 bytes)

-- by the class of the value
abbrev pub behind_scalar : Direction → ℕ → List ℕ → Option (List ℕ)
behind_scalar d class bytes =
    if class == 0x30 then behind 8 bytes else
    if class == 0x40 then behind_string d false bytes else
    if class == 0x70 then behind_binary d bytes else
    if class == 0x80 then behind 12 bytes else
    if class == 0x90 then behind 1 bytes else
    if class == 0xa0 then behind 8 bytes else
    if class == 0xb0 then behind 8 bytes else
    Some bytes

-- ---- behind a value

abbrev pub by_class : ℕ → Option (List ℕ) → Option (List ℕ) → Option (List ℕ) → Option (List ℕ)
by_class class of_pairs of_items of_scalar =
    if class == 0x50 then of_pairs else if class == 0x60 then of_items else of_scalar

-- Each value, and each pair or item behind another, takes a step; there are at most as many as
-- bytes.
abbrev mutual
  pub behind_value : Direction → ℕ → List ℕ → Option (List ℕ)
  behind_value d zero bytes = None
  behind_value d (suc steps) [] = None
  behind_value d (suc steps) (b ∷ bs) =
      by_class (plain d b) (behind_pairs d steps bs) (behind_items d steps bs)
      (behind_scalar d (plain d b) bs)

  -- a class and a name stand before each value
  pub behind_pairs : Direction → ℕ → List ℕ → Option (List ℕ)
  behind_pairs d zero bytes = None
  behind_pairs d (suc steps) [] = None
  behind_pairs d (suc steps) (b ∷ bs) =
      if plain d b == 0 then Some bs else
      option_and_then (behind_pairs d steps)
      (option_and_then (behind_value d steps) (behind_name d bs))

  pub behind_items : Direction → ℕ → List ℕ → Option (List ℕ)
  behind_items d zero bytes = None
  behind_items d (suc steps) [] = None
  behind_items d (suc steps) (b ∷ bs) =
      if plain d b == 0 then Some bs else
      option_and_then (behind_items d steps) (behind_value d steps (b ∷ bs))

-- ---- behind a key

-- behind the texts of these fields
abbrev pub behind_fields : List Field → ℕ → List ℕ → Option (List ℕ)
behind_fields [] steps bytes = Some bytes
behind_fields (f ∷ fs) steps bytes =
    option_and_then (behind_fields fs steps) (behind_value f.direction steps bytes)

-- The text of the `_id` in the text of an entry of an index, which begins with a key.
abbrev pub id_text : List Field → List ℕ → Option (List ℕ)
id_text fields text = behind_fields fields (length text) text
