-- What an engine holds: collections, open cursors, and the number of the next cursor.
use Rattle.std.specs.Prelude.{ℕ, zero, suc, Bool, false, not, ◌==◌, if◌then◌else◌, List, [], length}
use Rattle.std.specs.Prelude.{map, Option, Some, None}
use Rattle.std.specs.List.{filter, list_all}
use Rattle.bson.specs.Tree.{Pairs}
use Rattle.index.specs.Definition.{Definition}
use Rattle.entry_model.specs.State.{Collection, find_collection, uses}

-- Documents that a connection has not been given yet. A cursor is touched where the running turn
-- opened or advanced it.
pub record Cursor : Type 0 where
  pub number : ℕ
  pub connection : ℕ
  pub namespace : List ℕ
  pub rest : List Pairs
  pub touched : Bool

-- The collections stand in rising order of their namespaces, so that equal states are one list, and
-- the cursors in the order in which they were opened.
pub record World : Type 0 where
  pub collections : List Collection
  pub cursors : List Cursor
  pub next : ℕ

-- the open cursors, and the number of the next one
pub record CursorTable : Type 0 where
  pub list : List Cursor
  pub next : ℕ

abbrev pub new_world : World
new_world = record { collections = []; cursors = []; next = 1 }

-- the first of the numbers from n on, of which there are so many and one more, that no collection
-- has
abbrev pub unused_from : ℕ → ℕ → List Collection → ℕ
unused_from zero n cs = n
unused_from (suc more) n cs = if uses cs n then unused_from more (suc n) cs else n

-- The least number from 1 on that no collection has. Among one more than there are collections
-- there is one.
abbrev pub unused : List Collection → ℕ
unused cs = unused_from (length cs) 1 cs

abbrev pub number_or : ℕ → Option Collection → ℕ
number_or new None = new
number_or new (Some c) = c.number

-- a missing collection reads as empty
abbrev pub documents_or_none : Option Collection → List Pairs
documents_or_none None = []
documents_or_none (Some c) = c.documents

abbrev pub indexes_or_none : Option Collection → List Definition
indexes_or_none None = []
indexes_or_none (Some c) = c.indexes

-- the collection of a name: the one that was found, or an empty one under this number
abbrev pub or_empty : List ℕ → ℕ → Option Collection → Collection
or_empty name new found = record {
  name = name;
  number = number_or new found;
  documents = documents_or_none found;
  indexes = indexes_or_none found;
}

-- the collection of a name; a missing one is an empty one under the least number that is not in use
abbrev pub collection_of : List Collection → List ℕ → Collection
collection_of collections name =
    or_empty name (unused collections) (find_collection collections name)

-- so with these documents
abbrev pub with_documents : List Collection → List ℕ → List Pairs → Collection
with_documents collections name stored =
    record (collection_of collections name) { documents = stored }

abbrev pub documents_of : List Collection → List ℕ → List Pairs
documents_of collections name = documents_or_none (find_collection collections name)

-- ---- cursors

-- how many cursors a connection has
abbrev pub count_of : ℕ → List Cursor → ℕ
count_of connection cs = length (filter (λ c. c.connection == connection) cs)

-- the cursors of the others
abbrev pub without_cursors : ℕ → List Cursor → List Cursor
without_cursors connection cs = filter (λ c. not (c.connection == connection)) cs

-- a connection has ended
abbrev pub forget : World → ℕ → World
forget world connection = record world { cursors = without_cursors connection world.cursors }

-- ---- how a turn ends

abbrev pub at_rest : Cursor → Cursor
at_rest c = record c { touched = false }

-- the cursors that the running turn has neither opened nor advanced
abbrev pub untouched : List Cursor → List Cursor
untouched cs = filter (λ c. not c.touched) cs

-- between turns no cursor is touched
abbrev pub are_untouched : List Cursor → Bool
are_untouched cs = list_all (λ c. not c.touched) cs

-- A turn that is done keeps what its commands made.
abbrev pub after_commit : World → World
after_commit now = record now { cursors = map at_rest now.cursors }

-- A turn that is undone leaves the collections from before it. Cursors that were opened or advanced
-- in it are closed, those that were killed stay closed, and the numbers that were drawn stay drawn.
abbrev pub after_undo : List Collection → World → World
after_undo before now =
    record now { collections = before; cursors = untouched now.cursors }
