-- Where the bytes of a text stand.
use Rattle.std.specs.Prelude.{◌≡◌, ◌≤◌, ℕ, List, length, take, IsUtf8, string_bytes}
use Rattle.bson.specs.declared.text.Place.{Place}
use Rattle.bson.specs.declared.text.Place.TheVariants as places

-- the bytes of a text: the first so many of those inside it, or those that were allocated for it
abbrev pub bytes_at : Place → List ℕ
bytes_at (places.Inside len bytes) = take len bytes
bytes_at (places.Outside text) = string_bytes text

-- There are as many inside as are said to be.
abbrev pub IsPlace : Place → Type 0
IsPlace (places.Inside len bytes) = (len ≤ 30) × (length bytes ≡ 30)
IsPlace (places.Outside text) = Unit {0}
