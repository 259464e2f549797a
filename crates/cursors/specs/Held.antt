-- Open cursors, of which some hold no documents: these go on in a version of the collections that
-- is pinned.
use Rattle.std.specs.Prelude.{ℕ, List, map, Option, None, slice_index_or}
use Rattle.filter.specs.Condition.{Conditions}
use Rattle.projection.specs.Projection.{Projection}
use Rattle.index.specs.Definition.{Definition}
use Rattle.pager.specs.declared.version.Version.{Version}
use Rattle.database_model.specs.World.{Cursor, CursorTable}
use Rattle.database_model.specs.Cursors.{no_cursor}

-- In which way a cursor goes on in a collection: through it from a key text on, where so many of
-- the documents that pass the filter may still come (0: all); by the key texts of the `_id`s of
-- those that are left, in their order; or through the entries of an index, from the text of one on,
-- up to all that go on from a last text, where of the documents that pass the filter so many are
-- left out at the front, and so many may still come.
pub data Way : Type 0 where
  through : Conditions → ℕ → List ℕ → Way
  listed : List (List ℕ) → Way
  ordered : Conditions → Definition → ℕ → ℕ → List ℕ → List ℕ → Way

-- How a cursor goes on: in a pinned version, in the collection of this number, in this way. Of each
-- document comes what the projection leaves.
pub record HeldWalk : Type 0 where
  pub version : Version
  pub number : ℕ
  pub projection : Projection
  pub way : Way

-- A cursor, and the walk by which it goes on. One without a walk keeps its documents.
pub record HeldCursor : Type 0 where
  pub cursor : Cursor
  pub walk : Option HeldWalk

-- the open cursors in the order in which they were opened, and the number of the next one
pub record Held : Type 0 where
  pub list : List HeldCursor
  pub next : ℕ

abbrev pub cursors_of : Held → List Cursor
cursors_of held = map (λ h. h.cursor) held.list

-- the same as the definition of a database knows them
abbrev pub table_of : Held → CursorTable
table_of held = record { list = cursors_of held; next = held.next }

abbrev pub no_held_cursor : HeldCursor
no_held_cursor = record { cursor = no_cursor; walk = None }

abbrev pub held_at : Held → ℕ → HeldCursor
held_at held at = slice_index_or held.list at no_held_cursor
