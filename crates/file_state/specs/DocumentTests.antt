-- Whether a document may be stored, as a test. Each of these is true just where what it is named
-- after holds: `is_scalar` where `IsScalar` (bson, specs/Lawful), `is_storable` where `IsStorable`
-- (entries, specs/LawfulState).
use Rattle.std.specs.Prelude.{ℕ, ℤ, pos, negsuc, suc, ◌^◌, Bool, true, not, ◌&&◌, ◌==◌, nat_lt}
use Rattle.std.specs.Prelude.{nat_le, List, length, codes, is_some, is_none}
use Rattle.std.specs.List.{list_all}
use Rattle.std.specs.Str.{is_utf8}
use Rattle.bson.specs.Lawful.{pairs_levels}
use Rattle.bson.specs.Lookup.{lookup}
use Rattle.bson.specs.Spelling.{frame_of, pairs_bytes}
use Rattle.bson.specs.Tree.{Scalar, text, binary, object_id, date, int32, timestamp}
use Rattle.bson.specs.Tree.{int64, Tree, scalar, document, array, Pairs, no_pairs}
use Rattle.bson.specs.Tree.{pair, Items, no_items, item}
use Rattle.path.specs.Parts.{has_zero}
use Rattle.value_order.specs.KeyText.{tree_text}
use Rattle.entry_model.specs.State.{key_of}

-- ---- values

-- a signed number of so many bits beside its sign
abbrev pub fits_signed : ℕ → ℤ → Bool
fits_signed bits (pos n) = nat_lt n (2 ^ bits)
fits_signed bits (negsuc n) = nat_lt n (2 ^ bits)

-- each number is below 256
abbrev pub are_bytes : List ℕ → Bool
are_bytes bytes = list_all (λ b. nat_lt b 256) bytes

-- Texts are UTF-8, bytes are bytes, and numbers fit.
abbrev pub is_scalar : Scalar → Bool
is_scalar (text s) = is_utf8 s
is_scalar (binary subtype bytes) = not (subtype == 2) && nat_lt subtype 256 && are_bytes bytes
is_scalar (object_id bytes) = length bytes == 12 && are_bytes bytes
is_scalar (date z) = fits_signed 63 z
is_scalar (int32 z) = fits_signed 31 z
is_scalar (timestamp n) = nat_lt n (2 ^ 64)
is_scalar (int64 z) = fits_signed 63 z
is_scalar other = true

-- a text with no zero byte
abbrev pub is_name : List ℕ → Bool
is_name name = is_utf8 name && not (has_zero name)

-- A value is lawful where each that it holds is, and names are, each once in its document.
abbrev mutual
  pub is_tree : Tree → Bool
  is_tree (scalar s) = is_scalar s
  is_tree (document ps) = is_pairs ps
  is_tree (array ts) = is_items ts

  pub is_pairs : Pairs → Bool
  is_pairs no_pairs = true
  is_pairs (pair name t ps) =
      is_name name && is_tree t && is_none (lookup ps name) && is_pairs ps

  pub is_items : Items → Bool
  is_items no_items = true
  is_items (item t ts) = is_tree t && is_items ts

-- ---- documents

-- lawful, and within the levels of any document
abbrev pub is_document : Pairs → Bool
is_document ps = is_pairs ps && nat_le (pairs_levels ps) 99

-- within the limits of size and of levels, with an `_id` whose key text is within its limit
abbrev pub is_storable : Pairs → Bool
is_storable ps =
    is_document ps && nat_le (length (frame_of (pairs_bytes ps))) 65535
    && nat_le (suc (pairs_levels ps)) 90 && is_some (lookup ps (codes "_id"))
    && nat_le (length (tree_text (key_of ps))) 500
