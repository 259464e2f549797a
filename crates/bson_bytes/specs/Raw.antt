-- Bytes that spell, as they stand: elements one behind the other, a document, a value.
use Rattle.std.specs.Prelude.{◌≡◌, ◌^◌, ◌+◌, ◌<◌, ◌≤◌, ℕ, nat_lt, if◌then◌else◌, List, [], ◌∷◌}
use Rattle.std.specs.Prelude.{length, take, Result, Ok, Err}
use Rattle.std.specs.Int.{w32, from_le_bytes}
use Rattle.bson.specs.Tree.{Tree, scalar, null, Pairs, no_pairs, pair}
use Rattle.bson.specs.Kinds.{kind}
use Rattle.bson.specs.Lawful.{IsTree, IsPairs, levels, pairs_levels}
use Rattle.bson.specs.Spelling.{tree_bytes, pairs_bytes}
use Rattle.bson_bytes.specs.Decoding.{Read, pairs_in, value_at, document_at}
use Rattle.bson_bytes.specs.declared.fault.BsonFault.{BsonFault}
use Rattle.bson.specs.declared.kind.Kind.{Kind}
use Rattle.bson.specs.declared.kind.Kind.TheVariants as kinds

abbrev pub tree_names : Pairs → List (List ℕ)
tree_names no_pairs = []
tree_names (pair name t ps) = name ∷ tree_names ps

-- ---- what reading leaves, without what it gives

abbrev pub rest_of : {Y : Type 0} → Read Y → Result (List ℕ) BsonFault
rest_of (Ok x) = Ok x.1
rest_of (Err e) = Err e

-- and with its name
abbrev pub name_and_rest : {Y : Type 0} → Read (List ℕ × Y) → Read (List ℕ)
name_and_rest (Ok x) = Ok (x.0.0, x.1)
name_and_rest (Err e) = Err e

abbrev pub outcome_of : {Y : Type 0} → Result Y BsonFault → Result (Unit {0}) BsonFault
outcome_of (Ok x) = Ok tt
outcome_of (Err e) = Err e

-- ---- elements

abbrev pub pairs_or_none : Result Pairs BsonFault → Pairs
pairs_or_none (Ok ps) = ps
pairs_or_none (Err e) = no_pairs

-- the pairs that these elements spell
abbrev pub pairs_spelled : List ℕ → Pairs
pairs_spelled bytes = pairs_or_none (pairs_in (value_at 99) bytes)

-- these bytes are the elements of a document with these pairs
pub record Elements (bytes : List ℕ) (ps : Pairs) : Type 0 where
  pub lawful : IsPairs ps
  pub depth : pairs_levels ps ≤ 99
  pub spelled : bytes ≡ pairs_bytes ps
  pub short : length bytes < 2 ^ 31

-- a first pair, taken apart: the kind of its value, its name, the spelling of its value, the
-- elements behind it
abbrev pub IsFirst : Pairs → Kind → List ℕ → List ℕ → List ℕ → Type 0
IsFirst no_pairs k name value rest = ⊥
IsFirst (pair first t ps) k name value rest =
    (k ≡ kind t) × (name ≡ first) × (value ≡ tree_bytes t) × (rest ≡ pairs_bytes ps)

-- the number that begins a value, if it has four bytes
abbrev pub number_at : List ℕ → ℕ
number_at bytes = if nat_lt (length bytes) 4 then 0 else from_le_bytes w32 (take 4 bytes)

-- how long the spelling of a value is that begins so
unfoldable pub len_at : Kind → List ℕ → ℕ
len_at kinds.String bytes = number_at bytes + 4
len_at kinds.Document bytes = number_at bytes
len_at kinds.Array bytes = number_at bytes
len_at kinds.Binary bytes = number_at bytes + 5
len_at kinds.ObjectId bytes = 12
len_at kinds.Bool bytes = 1
len_at kinds.Date bytes = 8
len_at kinds.Null bytes = 0
len_at kinds.Int32 bytes = 4
len_at kinds.Timestamp bytes = 8
len_at kinds.Int64 bytes = 8
len_at kinds.MinKey bytes = 0
len_at kinds.MaxKey bytes = 0

-- ---- a whole document, a whole value

abbrev pub document_or_none : Result (Pairs × ℕ) BsonFault → Pairs
document_or_none (Ok x) = x.0
document_or_none (Err e) = no_pairs

-- the length alone
abbrev pub only_length : Result (Pairs × ℕ) BsonFault → Result ℕ BsonFault
only_length (Ok x) = Ok x.1
only_length (Err e) = Err e

-- what reading gives of the document alone, without its length
abbrev pub only_document : Result (Pairs × ℕ) BsonFault → Result Pairs BsonFault
only_document (Ok x) = Ok x.0
only_document (Err e) = Err e

-- the document that these bytes spell
abbrev pub document_spelled : List ℕ → Pairs
document_spelled bytes = document_or_none (document_at bytes)

abbrev pub value_or_null : Read Tree → Tree
value_or_null (Ok x) = x.0
value_or_null (Err e) = scalar null

-- the value of a kind that these bytes spell
abbrev pub value_spelled : Kind → List ℕ → Tree
value_spelled k bytes = value_or_null (value_at 99 k bytes)

-- these bytes, all of them, spell this value of a document
pub record SpellsValue (k : Kind) (bytes : List ℕ) (t : Tree) : Type 0 where
  pub lawful : IsTree t
  pub depth : levels t ≤ 99
  pub same_kind : k ≡ kind t
  pub spelled : bytes ≡ tree_bytes t
  pub short : length bytes < 2 ^ 31
