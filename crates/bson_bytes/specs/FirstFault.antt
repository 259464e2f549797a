-- The first fault of bytes from the left: where what is wrong begins (`place`), up to where bytes
-- are looked at to tell (`seen`), and which fault it is. All before the place is spelled as BSON
-- 1.1 (bsonspec.org) has it: the length of each document or array that is open there, the pairs or
-- items in it that are whole, and the type byte and the name of the one that is open. Behind what
-- is seen there is nothing of which a definition here speaks but how many bytes are left and the
-- zeros that end what is open.
use Rattle.std.specs.Prelude.{◌≡◌, ◌≢◌, ◌⊎◌, ℕ, zero, suc, ◌+◌, ◌-◌, ◌<◌, ◌≤◌, Bool, true, false}
use Rattle.std.specs.Prelude.{List, ◌∷◌, ◌++◌, length, take, slice_index, Ok, Err}
use Rattle.bson.specs.Tree.{Pairs, Items}
use Rattle.bson.specs.Lawful.{IsName, IsPairs, IsItems, pairs_levels, items_levels}
use Rattle.bson.specs.Limits.{message_limit}
use Rattle.bson.specs.Spelling.{frame_of, pairs_bytes, items_bytes}
use Rattle.bson.specs.Edits.{items_len}
use Rattle.bson_bytes.specs.Decoding.{zero_at, name_at, kind_of, scalar_at, count_at, length_at}
use Rattle.bson.specs.Lookup.{stands_in}
use Rattle.bson_bytes.specs.Decoding.{document_at, is_no_index}
use Rattle.bson_bytes.specs.Raw.{tree_names}
use Rattle.bson_bytes.specs.declared.fault.BsonFault.{BsonFault}
use Rattle.bson_bytes.specs.declared.fault.BsonFault.TheVariants as faults
use Rattle.bson.specs.declared.kind.Kind.{Kind}
use Rattle.bson.specs.declared.kind.Kind.TheVariants as kinds

-- the same behind so many bytes
pub record Behind (n : ℕ) (wrong : ℕ → ℕ → BsonFault → Type 0) (place seen : ℕ)
    (fault : BsonFault) : Type 0 where
  pub at : ℕ
  pub upto : ℕ
  pub place_is : place ≡ n + at
  pub seen_is : seen ≡ n + upto
  pub inner : wrong at upto fault

-- ---- what may be wrong at a place

-- a scalar, which is looked at with what is left behind it in its document
pub record WrongScalar (k : Kind) (bytes : List ℕ) (place seen : ℕ)
    (fault : BsonFault) : Type 0 where
  pub here : place ≡ 0
  pub upto : seen ≡ length bytes
  pub judged : scalar_at k bytes ≡ Err fault

-- a document or an array one level too deep, whatever stands there
pub record TooDeep (place seen : ℕ) (fault : BsonFault) : Type 0 where
  pub here : place ≡ 0
  pub upto : seen ≡ 0
  pub deep : fault ≡ faults.Deep

-- the length of a document or an array: the number itself, or that it doesn't fit
pub record WrongCount (bytes : List ℕ) (place seen : ℕ) (fault : BsonFault) : Type 0 where
  pub here : place ≡ 0
  pub upto : seen ≡ 4
  pub fault_is : fault ≡ faults.Length
  pub judged : (count_at 5 bytes ≡ Err faults.Length)
      ⊎ ((n : ℕ × List ℕ) × (count_at 5 bytes ≡ Ok n) × (length n.1 ≤ n.0 - 5))

-- it fits, and where it ends there is no zero
pub record WrongEnd (bytes : List ℕ) (place seen : ℕ) (fault : BsonFault) : Type 0 where
  pub here : place ≡ 0
  pub count : ℕ × List ℕ
  pub upto : seen ≡ count.0
  pub fault_is : fault ≡ faults.Length
  pub counted : count_at 5 bytes ≡ Ok count
  pub fits : count.0 - 5 < length count.1
  pub judged : slice_index count.1 (count.0 - 5) ≢ 0

-- An element: a type byte that is not known; a name without a zero or that is not UTF-8; a name
-- that is wrong here; or its value.
pub data WrongElement (value : Kind → List ℕ → ℕ → ℕ → BsonFault → Type 0) (wrong : List ℕ → Bool)
    (named : BsonFault) (type : ℕ) (bytes : List ℕ) (place seen : ℕ)
    (fault : BsonFault) : Type 0 where
  wrong_type : place ≡ 0 → seen ≡ 1 → kind_of type ≡ Err fault
      → WrongElement value wrong named type bytes place seen fault
  wrong_name : place ≡ 1 → seen ≡ zero_at bytes + 2 → (k : Kind) → kind_of type ≡ Ok k
      → name_at bytes ≡ Err fault → WrongElement value wrong named type bytes place seen fault
  wrong_here :
      place ≡ 1 → (name rest : List ℕ) → seen ≡ length name + 2 → (k : Kind) → kind_of type ≡ Ok k
      → IsName name → bytes ≡ name ++ 0 ∷ rest → wrong name ≡ true → fault ≡ named
      → WrongElement value wrong named type bytes place seen fault
  wrong_value :
      (name rest : List ℕ) (k : Kind) → kind_of type ≡ Ok k → IsName name → bytes ≡ name ++ 0 ∷ rest
      → wrong name ≡ false → Behind (length name + 2) (value k rest) place seen fault
      → WrongElement value wrong named type bytes place seen fault

-- ---- what stands before it

-- in the elements of a document, behind whole pairs
pub record WrongPair (more : ℕ) (value : Kind → List ℕ → ℕ → ℕ → BsonFault → Type 0)
    (content : List ℕ) (place seen : ℕ) (fault : BsonFault) : Type 0 where
  pub before : Pairs
  pub type : ℕ
  pub bytes : List ℕ
  pub parts : content ≡ pairs_bytes before ++ type ∷ bytes
  pub lawful : IsPairs before
  pub depth : pairs_levels before ≤ more
  pub element : Behind (length (pairs_bytes before))
      (WrongElement value (stands_in (tree_names before)) faults.Repeated type bytes)
      place seen fault

-- in the elements of an array, behind whole items
pub record WrongItem (more : ℕ) (value : Kind → List ℕ → ℕ → ℕ → BsonFault → Type 0)
    (content : List ℕ) (place seen : ℕ) (fault : BsonFault) : Type 0 where
  pub before : Items
  pub type : ℕ
  pub bytes : List ℕ
  pub parts : content ≡ items_bytes 0 before ++ type ∷ bytes
  pub lawful : IsItems before
  pub depth : items_levels before ≤ more
  pub element : Behind (length (items_bytes 0 before))
      (WrongElement value (is_no_index (items_len before)) faults.ArrayName type bytes)
      place seen fault

-- in a document or an array whose length fits and that a zero ends
pub record InFrame (inner : List ℕ → ℕ → ℕ → BsonFault → Type 0) (bytes : List ℕ) (place seen : ℕ)
    (fault : BsonFault) : Type 0 where
  pub content : List ℕ
  pub rest : List ℕ
  pub parts : bytes ≡ frame_of content ++ rest
  pub fault_in : Behind 4 (inner content) place seen fault

-- a document or an array
pub data WrongFrame (inner : List ℕ → ℕ → ℕ → BsonFault → Type 0) (bytes : List ℕ) (place seen : ℕ)
    (fault : BsonFault) : Type 0 where
  wrong_count : WrongCount bytes place seen fault → WrongFrame inner bytes place seen fault
  wrong_end : WrongEnd bytes place seen fault → WrongFrame inner bytes place seen fault
  wrong_in : InFrame inner bytes place seen fault → WrongFrame inner bytes place seen fault

-- a value where this many more levels are allowed
unfoldable pub WrongValue : ℕ → Kind → List ℕ → ℕ → ℕ → BsonFault → Type 0
WrongValue zero kinds.Document bytes place seen fault = TooDeep place seen fault
WrongValue (suc more) kinds.Document bytes place seen fault =
    WrongFrame (WrongPair more (WrongValue more)) bytes place seen fault
WrongValue zero kinds.Array bytes place seen fault = TooDeep place seen fault
WrongValue (suc more) kinds.Array bytes place seen fault =
    WrongFrame (WrongItem more (WrongValue more)) bytes place seen fault
WrongValue more k bytes place seen fault = WrongScalar k bytes place seen fault

-- ---- a whole document

-- its length: the number, or that the input is shorter
pub record WrongLength (bytes : List ℕ) (place seen : ℕ) (fault : BsonFault) : Type 0 where
  pub here : place ≡ 0
  pub upto : seen ≡ 4
  pub judged : length_at bytes ≡ Err fault

-- its last byte
pub record WrongLast (bytes : List ℕ) (place seen : ℕ) (fault : BsonFault) : Type 0 where
  pub here : place ≡ 0
  pub counted : length_at bytes ≡ Ok seen
  pub fault_is : fault ≡ faults.Length
  pub judged : slice_index bytes (seen - 1) ≢ 0

pub data WrongDocument (bytes : List ℕ) (place seen : ℕ) (fault : BsonFault) : Type 0 where
  wrong_length : WrongLength bytes place seen fault → WrongDocument bytes place seen fault
  wrong_last : WrongLast bytes place seen fault → WrongDocument bytes place seen fault
  wrong_inside : (frame : InFrame (WrongPair 99 (WrongValue 99)) bytes place seen fault)
      → length frame.content + 5 ≤ message_limit → WrongDocument bytes place seen fault

-- the first fault from the left
pub record FirstFault (bytes : List ℕ) (fault : BsonFault) : Type 0 where
  pub read : document_at bytes ≡ Err fault
  pub place : ℕ
  pub seen : ℕ
  pub stands : WrongDocument bytes place seen fault

-- ---- whatever stands behind

-- of the same length, and the same up to there
pub record Agrees (seen : ℕ) (bytes other : List ℕ) : Type 0 where
  pub long : length other ≡ length bytes
  pub front : take seen other ≡ take seen bytes

-- further left, an open document or array that ended with a zero does so no more
pub record WrongEarlier (wrong : ℕ → ℕ → BsonFault → Type 0) (place : ℕ) : Type 0 where
  pub at : ℕ
  pub upto : ℕ
  pub earlier : at < place
  pub stands : wrong at upto faults.Length

-- the same fault at the same place, or that
abbrev pub IsStill : (ℕ → ℕ → BsonFault → Type 0) → ℕ → ℕ → BsonFault → Type 0
IsStill wrong place seen fault = wrong place seen fault ⊎ WrongEarlier wrong place
