-- What a delete takes out of its collection.
use Rattle.std.specs.Prelude.{◌≡◌, ℕ, ◌<◌, ◌-◌, ◌^◌, List, length, take, Some}
use Rattle.std.specs.List.{filter}
use Rattle.bson.specs.Tree.{Pairs}
use Rattle.command_model.specs.Delete.{Deletion}
use Rattle.entry_model.specs.State.{Collection, find_collection}
use Rattle.database_model.specs.Delete.{deleted_in}
use Rattle.database_model.specs.Merging.{is_deleted}
use Rattle.statements.specs.Redoing.{all_taken}
use Rattle.database_model.specs.World.{documents_of}
use Rattle.engine.specs.declared.delete.Taken.{Taken}

-- The documents are those that the statements take, and the number and the indexes are those of
-- their collection.
pub record IsTaken (now : List Collection) (name : List ℕ) (deletions : List Deletion) (t : Taken)
    : Type 0 where
  pub removed : t.removed.items ≡ all_taken deletions (documents_of now name)
  pub home : (c : Collection) → find_collection now name ≡ Some c
      → (c.number ≡ t.home.number) × (c.indexes ≡ t.home.indexes.items)

-- Of the documents that a statement matches, in their order, the first ones up to this number are
-- enough, unless that is the greatest and they are as many: of them the same is taken as of all.
abbrev pub FirstAreEnough : List Deletion → ℕ → Type 0
FirstAreEnough deletions most = (ds : List Pairs)
    → let found = take most (filter (is_deleted deletions) ds) in length found < 2 ^ 64 - 1
    → all_taken deletions found ≡ all_taken deletions ds

-- the collections after a delete from the one of a name
abbrev pub deleted : List Collection → List ℕ → List Deletion → List Collection
deleted now name deletions = deleted_in (find_collection now name) deletions now
