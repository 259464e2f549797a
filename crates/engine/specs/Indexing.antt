-- Documents of a collection that enter a new index, batch after batch, and indexes that are noted
-- as edits of the file.
use Rattle.std.specs.Prelude.{◌≡◌, ◌⊎◌, ℕ, Bool, false, not, is_some, List, [], ◌++◌, length, Ok}
use Rattle.std.specs.Prelude.{Err}
use Rattle.bson.specs.Tree.{Pairs}
use Rattle.collections.specs.Walk.{IsWalk}
use Rattle.collections.specs.declared.walk.Walk.{Walk}
use Rattle.path.specs.declared.refusal.Refusal.{Refusal}
use Rattle.path.specs.declared.refusal.Refusal.TheVariants as refusals
use Rattle.command_model.specs.NewIndex.{NewIndex}
use Rattle.index.specs.Definition.{Definition}
use Rattle.entries.specs.IndexMaking.{HasEntries}
use Rattle.entry_model.specs.WithIndex.{with_index}
use Rattle.entry_model.specs.LawfulState as states
use Rattle.entry_model.specs.State.{Collection, find_collection, put_collection}
use Rattle.entry_model.specs.StateEntries.{Leads}
use Rattle.entries.specs.declared.making.NewEntries.{NewEntries}
use Rattle.database_model.specs.CreateIndexes.{with_new_indexes}
use Rattle.database_model.specs.Insert.{is_full}
use Rattle.database_model.specs.World.{collection_of, documents_of}
use Rattle.engine.specs.declared.create_indexes.PlannedIndexes.{PlannedIndexes}

-- ---- documents

-- Wherever the entries are those of the documents before these, they are now those with these.
abbrev pub TakesEach : NewEntries → NewEntries → List Pairs → Type 0
TakesEach old new ds =
    (c : Collection) (i : Definition) (done rest : List Pairs) → states.IsKept c
    → c.documents ≡ done ++ (ds ++ rest) → HasEntries c i done old
    → HasEntries c i (done ++ ds) new

-- Wherever they are, one of these is refused, or memory ran out.
abbrev pub RefusesOne : NewEntries → List Pairs → Refusal → Type 0
RefusesOne old ds e =
    (c : Collection) (i : Definition) (done rest : List Pairs) → states.IsKept c
    → c.documents ≡ done ++ (ds ++ rest) → HasEntries c i done old
    → (with_index c i ≡ Err e) ⊎ (e ≡ refusals.OutOfMemory)

-- ---- a walk

-- a collection that gets an index, which some of its documents have entered, and the others
pub record Indexed : Type 0 where
  pub collection : Collection
  pub index : Definition
  pub done : List Pairs
  pub rest : List Pairs

-- none has entered yet, and they are the documents of this name
pub record IsUnbegun (name : List ℕ) (made : NewEntries) (now : List Collection)
    (x : Indexed) : Type 0 where
  pub documents : x.collection.documents ≡ documents_of now name
  pub kept : states.IsKept x.collection
  pub has : HasEntries x.collection x.index [] made

-- the others are still to come in the walk
pub record IsIndexing (walk : Walk) (made : NewEntries) (now : List Collection)
    (x : Indexed) : Type 0 where
  pub walks : IsWalk now walk x.rest
  pub all : x.collection.documents ≡ x.done ++ x.rest
  pub kept : states.IsKept x.collection
  pub has : HasEntries x.collection x.index x.done made

-- so of fewer, and of none where there was no batch
pub record HasIndexed (walk : Walk) (made : NewEntries) (now : List Collection) (x : Indexed)
    (more : Bool)
    : Type 0 where
  pub done : List Pairs
  pub rest : List Pairs
  pub indexing : IsIndexing walk made now (record x { done = done; rest = rest })
  pub none : more ≡ false → rest ≡ []

-- all have entered
abbrev pub IsIndexed : NewEntries → List Collection → Indexed → Unit {0} → Type 0
IsIndexed made now x u = HasEntries x.collection x.index x.collection.documents made

abbrev pub IsUnindexable : Indexed → Refusal → Type 0
IsUnindexable x e = with_index x.collection x.index ≡ Err e

-- ---- indexes

-- its documents are those of this name in the file
abbrev pub HasDocumentsOf : List Collection → List ℕ → Collection → Type 0
HasDocumentsOf cs name c = c.documents ≡ documents_of cs name

-- What a `createIndexes` makes: edits that lead to the collection with its indexes, and how many
-- these were and are.
pub record ArePlanned (cs : List Collection) (name : List ℕ) (ns : List NewIndex)
    (p : PlannedIndexes) : Type 0 where
  pub next : Collection
  pub is : with_new_indexes (collection_of cs name) ns ≡ Ok next
  pub room : is_full cs name ≡ false
  pub before : p.before ≡ length (collection_of cs name).indexes
  pub after : p.after ≡ length next.indexes
  pub is_new : p.is_new ≡ not (is_some (find_collection cs name))
  pub leads : states.IsLawfulState cs
      → Leads p.edits cs (put_collection next cs) × states.IsLawfulState (put_collection next cs)
