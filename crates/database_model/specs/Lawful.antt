-- What is kept of stored documents and of collections.
use Rattle.std.specs.Prelude.{◌≡◌, ℕ, Bool, suc, ◌<◌, ◌≤◌, ◌^◌, Bool, false, List, [], ◌∷◌, length}
use Rattle.std.specs.Prelude.{Some, None, All, IsUtf8, refl}
use Rattle.std.specs.List.{AllByRecursion, AllPairs}
use Rattle.std.specs.Ordering.{nat_cmp}
use Rattle.value_order.specs.Order.{compare}
use Rattle.value_order.specs.KeyText.{tree_text}
use Rattle.std.specs.Coded.{Coded, code_by, coded×, coded_ℕ, coded_bool, coded_list}
use Rattle.bson.specs.Tree.{Pairs}
use Rattle.bson.specs.TreeCode.{coded_pairs}
use Rattle.bson.specs.Lawful.{pairs_levels, IsDocument}
use Rattle.bson.specs.Spelling.{frame_of, pairs_bytes}
use Rattle.index.specs.Definition.{Definition}
use Rattle.index.specs.DefinitionCode.{definition_code}
use Rattle.entry_model.specs.State.{Collection}
use Rattle.entry_model.specs.LawfulState.{IsRising, AreNamedApart, AreNumberedApart}
use Rattle.database_model.specs.World.{World, Cursor, CursorTable}
use Rattle.database_model.specs.Documents.{key_of}
use Rattle.update_model.specs.Stored.{pairs_fault, id_first, id_of}

-- A document that may be stored: within the limits, each name good, its `_id` first, with a key
-- text within the limit.
pub record IsStored (ps : Pairs) : Type 0 where
  pub size : length (frame_of (pairs_bytes ps)) ≤ 65535
  pub depth : suc (pairs_levels ps) ≤ 90
  pub names : pairs_fault ps ≡ None
  pub key : id_of ps ≡ Some (key_of ps)
  pub short : length (tree_text (key_of ps)) ≤ 500
  pub first : id_first ps ≡ ps

-- a document within the limits of those that are stored or given
pub record IsWithin (ps : Pairs) : Type 0 where
  pub size : length (frame_of (pairs_bytes ps)) ≤ 65535
  pub depth : suc (pairs_levels ps) ≤ 90

pub record IsCollection (c : Collection) : Type 0 where
  pub rising : IsRising c.documents
  pub stored : All IsStored c.documents

-- bytes spell the name and the documents
pub record IsReadable (c : Collection) : Type 0 where
  pub name : IsUtf8 c.name
  pub documents : All IsDocument c.documents

-- what a collection has
pub record IsHeld (c : Collection) : Type 0 where
  pub lawful : IsCollection c
  pub readable : IsReadable c

-- an index within the limits: the bytes of its name, its paths and their bytes
pub record IsShortIndex (i : Definition) : Type 0 where
  pub short : length i.name ≤ 127
  pub few : length i.fields ≤ 4
  pub paths : AllByRecursion (λ f. length f.path ≤ 255) i.fields

-- so are these, which are not too many
pub record AreShortIndexes (indexes : List Definition) : Type 0 where
  pub each : AllByRecursion IsShortIndex indexes
  pub few : length indexes ≤ 16

-- a collection within the limits
pub record IsKept (c : Collection) : Type 0 where
  pub lawful : IsCollection c
  pub short : length c.name ≤ 255
  pub least : 1 ≤ c.number
  pub most : c.number ≤ 1000
  pub indexes : AreShortIndexes c.indexes

-- What is kept of the collections: they are in order and within the limits.
pub record IsLawfulState (collections : List Collection) : Type 0 where
  pub apart : AreNamedApart collections
  pub numbers : AreNumberedApart collections
  pub kept : All IsKept collections
  pub few : length collections ≤ 1000

-- what is kept of an open cursor
pub record IsOpenCursor (c : Cursor) : Type 0 where
  pub within : All IsWithin c.rest
  pub number : c.number < 2 ^ 63

-- cursors hold documents within the limits
abbrev pub AreLawfulCursors : List Cursor → Type 0
AreLawfulCursors cs = All (λ c. All IsWithin c.rest) cs

-- What is kept of a world: its collections are lawful, and a cursor holds documents within the
-- limits.
pub record IsLawful (world : World) : Type 0 where
  pub collections : IsLawfulState world.collections
  pub cursors : AreLawfulCursors world.cursors

-- a collection is told apart by its namespace, its number, its documents and its indexes
abbrev pub collection_code : Coded Collection
collection_code = code_by ((List ℕ × ℕ) × (List Pairs × List Definition))
    (coded× (coded× (coded_list coded_ℕ) coded_ℕ)
    (coded× (coded_list coded_pairs) (coded_list definition_code)))
    (λ c. ((c.name, c.number), (c.documents, c.indexes)))
    (λ p. record { name = p.0.0; number = p.0.1; documents = p.1.0; indexes = p.1.1 }) (λ _. refl)

-- a cursor by its number, its connection, its namespace, its documents and whether it is touched
abbrev pub cursor_code : Coded Cursor
cursor_code =
    code_by ((ℕ × ℕ) × (List ℕ × (List Pairs × Bool)))
    (coded× (coded× coded_ℕ coded_ℕ)
    (coded× (coded_list coded_ℕ) (coded× (coded_list coded_pairs) coded_bool)))
    (λ c. ((c.number, c.connection), (c.namespace, (c.rest, c.touched))))
    (λ p. record {
      number = p.0.0;
      connection = p.0.1;
      namespace = p.1.0;
      rest = p.1.1.0;
      touched = p.1.1.1;
    })
    (λ _. refl)

abbrev pub cursor_table_code : Coded CursorTable
cursor_table_code =
    code_by (List Cursor × ℕ) (coded× (coded_list cursor_code) coded_ℕ) (λ t. (t.list, t.next))
    (λ p. record { list = p.0; next = p.1 }) (λ _. refl)
