-- What is known of what is found in a state.
use Rattle.std.specs.Prelude.{◌≡◌, ◌≤◌, ℕ, List, length, Some, All}
use Rattle.std.specs.declared.cmp.Ordering.TheVariants.{Equal}
use Rattle.bson.specs.Tree.{Tree, Pairs}
use Rattle.bson.specs.Lawful.{IsDocument, IsTree}
use Rattle.bson.specs.Limits.{message_limit}
use Rattle.bson.specs.Lookup.{lookup}
use Rattle.bson.specs.Spelling.{frame_of, pairs_bytes}
use Rattle.value_order.specs.KeyText.{tree_text}
use Rattle.value_order.specs.Laws.{IsKey}
use Rattle.value_order.specs.Order.{value, compare}
use Rattle.entry_model.specs.State.{Collection, key_of, find_collection, put_collection}
use Rattle.entry_model.specs.State.{without_collection}
use Rattle.entry_model.specs.StateReads.{find_document}
use Rattle.entry_model.specs.LawfulState.{IsStorable, IsKept, IsLawfulState}

-- A collection that is found is within the limits, and it has the name.
abbrev pub FoundCollection : Type 0
FoundCollection =
    (cs : List Collection) (name : List ℕ) (c : Collection) → IsLawfulState cs
    → find_collection cs name ≡ Some c
    → IsKept c × (c.name ≡ name)

-- A document that is found may be stored, and the order calls its `_id` equal.
abbrev pub FoundDocument : Type 0
FoundDocument =
    (ds : List Pairs) (id : Tree) (d : Pairs) → All IsStorable ds → find_document ds id ≡ Some d
    → IsStorable d × (compare id (key_of d) ≡ Equal)

-- What was put is found.
abbrev pub FindsPut : Type 0
FindsPut =
    (c : Collection) (cs : List Collection) → find_collection (put_collection c cs) c.name ≡ Some c

-- Put twice it stands once, as it was put last.
abbrev pub PutTwice : Type 0
PutTwice =
    (c d : Collection) (cs : List Collection) → d.name ≡ c.name
    → put_collection c (put_collection d cs) ≡ put_collection c cs

-- Put and gone it leaves what goes without it.
abbrev pub WithoutPut : Type 0
WithoutPut =
    (c : Collection) (cs : List Collection) → IsLawfulState cs
    → without_collection c.name (put_collection c cs) ≡ without_collection c.name cs

-- ---- keys

-- The `_id` of a stored document is a key.
abbrev pub StoredIsKey : Type 0
StoredIsKey = (d : Pairs) → IsStorable d → IsKey (value (key_of d))

-- So is a field of a document that a message has room for.
abbrev pub FieldIsKey : Type 0
FieldIsKey =
    (ps : Pairs) (name : List ℕ) (t : Tree) → IsDocument ps
    → length (frame_of (pairs_bytes ps)) ≤ message_limit
    → lookup ps name ≡ Some t → IsKey (value t)

-- So is a value with a short key text, as those of all stored `_id`s are.
abbrev pub ShortIsKey : Type 0
ShortIsKey = (t : Tree) → IsTree t → length (tree_text t) ≤ 500 → IsKey (value t)
