-- Which trees are documents of BSON 1.1 (bsonspec.org): texts are UTF-8, numbers fit, an object id
-- has twelve bytes, and names have no zero byte. Narrower than the standard: the names of a
-- document are distinct, no binary has subtype 2, and documents and arrays nest at most 100 levels.
use Rattle.std.specs.Prelude.{◌≡◌, ◌≢◌, ℕ, suc, max, ◌<◌, ◌≤◌, ◌^◌, List, [], ◌∷◌, length}
use Rattle.std.specs.Prelude.{slice_index, IsUtf8, FitsSigned}
use Rattle.std.specs.Int.{w32, w64}
use Rattle.bson.specs.Tree.{Scalar, text, binary, object_id, boolean, date, null, int32, timestamp}
use Rattle.bson.specs.Tree.{int64, min_key, max_key, Tree, scalar, document, array, Pairs, no_pairs}
use Rattle.bson.specs.Tree.{pair, Items, no_items, item}

-- how deep documents and arrays nest
abbrev mutual
  pub levels : Tree → ℕ
  levels (scalar s) = 0
  levels (document ps) = suc (pairs_levels ps)
  levels (array ts) = suc (items_levels ts)

  pub pairs_levels : Pairs → ℕ
  pairs_levels no_pairs = 0
  pairs_levels (pair name t ps) = max (levels t) (pairs_levels ps)

  pub items_levels : Items → ℕ
  items_levels no_items = 0
  items_levels (item t ts) = max (levels t) (items_levels ts)

abbrev pub NoZero : List ℕ → Type 0
NoZero [] = Unit {0}
NoZero (b ∷ bs) = (b ≢ 0) × NoZero bs

pub record IsName (name : List ℕ) : Type 0 where
  pub is_text : IsUtf8 name
  pub no_zero : NoZero name

-- no pair has this name
abbrev pub Lacks : Pairs → List ℕ → Type 0
Lacks no_pairs name = Unit {0}
Lacks (pair other t ps) name = (name ≢ other) × Lacks ps name

-- the numbers are bytes
abbrev pub IsBytes : List ℕ → Type 0
IsBytes bytes = (i : ℕ) → slice_index bytes i < 256

abbrev pub IsScalar : Scalar → Type 0
IsScalar (text s) = IsUtf8 s
IsScalar (binary subtype bytes) = (subtype ≢ 2) × (subtype < 256) × IsBytes bytes
IsScalar (object_id bytes) = (length bytes ≡ 12) × IsBytes bytes
IsScalar (boolean b) = Unit {0}
IsScalar (date z) = FitsSigned w64 z
IsScalar null = Unit {0}
IsScalar (int32 z) = FitsSigned w32 z
IsScalar (timestamp n) = n < 2 ^ 64
IsScalar (int64 z) = FitsSigned w64 z
IsScalar min_key = Unit {0}
IsScalar max_key = Unit {0}

abbrev mutual
  pub IsTree : Tree → Type 0
  IsTree (scalar s) = IsScalar s
  IsTree (document ps) = IsPairs ps
  IsTree (array ts) = IsItems ts

  pub IsPairs : Pairs → Type 0
  IsPairs no_pairs = Unit {0}
  IsPairs (pair name t ps) = IsName name × IsTree t × Lacks ps name × IsPairs ps

  pub IsItems : Items → Type 0
  IsItems no_items = Unit {0}
  IsItems (item t ts) = IsTree t × IsItems ts

-- The top document is level 1.
pub record IsDocument (ps : Pairs) : Type 0 where
  pub lawful : IsPairs ps
  pub depth : pairs_levels ps ≤ 99

-- an array is at level 2 at least
pub record IsArray (ts : Items) : Type 0 where
  pub lawful : IsItems ts
  pub depth : items_levels ts ≤ 98

-- what a `Document` keeps beside its pairs, and of them
pub record HoldsDocument (levels : ℕ) (ps : Pairs) : Type 0 where
  pub lawful : IsDocument ps
  pub counted : levels ≡ pairs_levels ps

pub record HoldsArray (levels : ℕ) (ts : Items) : Type 0 where
  pub lawful : IsArray ts
  pub counted : levels ≡ items_levels ts

-- the tree is a scalar
abbrev pub IsLeaf : Tree → Type 0
IsLeaf (scalar s) = Unit {0}
IsLeaf (document ps) = ⊥
IsLeaf (array ts) = ⊥

-- if the tree is a scalar, it is a lawful one
abbrev pub IsLawfulLeaf : Tree → Type 0
IsLawfulLeaf (scalar s) = IsScalar s
IsLawfulLeaf (document ps) = Unit {0}
IsLawfulLeaf (array ts) = Unit {0}
