-- What defines an index (MongoDB manual, "Compound Indexes" and "Multikey Indexes"): its number in
-- the collection, its name, its paths with their directions, whether no two documents may have one
-- key in it, and whether a document with an array on one of its paths was stored.
use Rattle.std.specs.Prelude.{◌≡◌, ◌≤◌, ℕ, pos, negsuc, Bool, List, [], ◌∷◌, length, Ok, IsUtf8}
use Rattle.std.specs.List.{AllByRecursion}
use Rattle.bson.specs.Tree.{Tree, scalar, int32, Pairs, no_pairs, pair}
use Rattle.bson.specs.Lawful.{IsPairs}
use Rattle.path.specs.Parts.{parts_of, path_of}
use Rattle.value_order.specs.declared.texts.Direction.{Direction}
use Rattle.value_order.specs.declared.texts.Direction.TheVariants as directions

-- a path as it is written, and the direction of the keys there
pub record Field : Type 0 where
  pub path : List ℕ
  pub direction : Direction

pub record Definition : Type 0 where
  pub number : ℕ
  pub name : List ℕ
  pub fields : List Field
  pub is_unique : Bool
  pub is_multi : Bool

-- ---- the `key` of a definition: its paths with 1 or -1

abbrev pub direction_value : Direction → Tree
direction_value directions.Ascending = scalar (int32 (pos 1))
direction_value directions.Descending = scalar (int32 (negsuc 0))

abbrev pub key_document : List Field → Pairs
key_document [] = no_pairs
key_document (f ∷ fs) = pair f.path (direction_value f.direction) (key_document fs)

-- ---- what a definition may be

abbrev pub IsPath : List ℕ → Type 0
IsPath text = path_of text ≡ Ok (parts_of text)

-- One to four paths, none of them twice.
pub record AreFields (fields : List Field) : Type 0 where
  pub some : 1 ≤ length fields
  pub most : length fields ≤ 4
  pub paths : AllByRecursion (λ f. IsPath f.path) fields
  pub distinct : IsPairs (key_document fields)

-- A collection has up to 16 indexes beside that on `_id`, with numbers from 1 on.
pub record IsDefinition (d : Definition) : Type 0 where
  pub numbered : 1 ≤ d.number
  pub most : d.number ≤ 16
  pub is_text : IsUtf8 d.name
  pub named : 1 ≤ length d.name
  pub short : length d.name ≤ 127
  pub fields : AreFields d.fields
