-- Documents of a collection whose entries are removed from an index, batch after batch, and indexes
-- that are noted as dropped.
use Rattle.std.specs.Prelude.{◌≡◌, ℕ, Bool, false, List, [], ◌++◌, Some, Ok, All, Result}
use Rattle.bson.specs.Tree.{Pairs}
use Rattle.tree_model.specs.Keys.{Edit}
use Rattle.collections.specs.Lookups.{IsNumbered}
use Rattle.collections.specs.Walk.{IsWalk}
use Rattle.collections.specs.declared.walk.Walk.{Walk}
use Rattle.path.specs.declared.refusal.Refusal.{Refusal}
use Rattle.command_model.specs.DropIndexes.{DroppedIndexes}
use Rattle.index.specs.Definition.{Definition}
use Rattle.entries.specs.IndexBuilding.{HasRemovedEntries}
use Rattle.entry_model.specs.WithIndex.{without_index_at}
use Rattle.index.specs.KeyTexts.{encoded_keys, keys_in}
use Rattle.entry_model.specs.LawfulState.{IsStorable}
use Rattle.entry_model.specs.State.{Collection, find_collection}
use Rattle.database_model.specs.DropIndexes.{remaining}

-- ---- documents

-- a document that may be stored, and which this index doesn't refuse
pub record HasKeysIn (i : Definition) (d : Pairs) : Type 0 where
  pub storable : IsStorable d
  pub keyed : keys_in i.fields d ≡ Ok (encoded_keys i.fields d)

-- ---- a walk

-- These documents are still to come in the walk.
pub record IsUnindexing (i : Definition) (walk : Walk) (now : List Collection) (rest : List Pairs)
    : Type 0 where
  pub walks : IsWalk now walk rest
  pub keyed : All (HasKeysIn i) rest

-- The entries of the first of them were removed, and the others are still to come: none where there
-- was no batch.
pub record HasUnindexed (number : ℕ) (i : Definition) (before after : List Edit) (walk : Walk)
    (now : List Collection) (rest : List Pairs) (more : Bool) : Type 0 where
  pub batch : List Pairs
  pub left : List Pairs
  pub all : rest ≡ batch ++ left
  pub removed : HasRemovedEntries before after number i batch
  pub unindexing : IsUnindexing i walk now left
  pub none : more ≡ false → left ≡ []

-- a collection of this number, whose documents the index doesn't refuse
pub record IsIndexedBy (number : ℕ) (i : Definition) (now : List Collection) (c : Collection)
    : Type 0 where
  pub numbered : IsNumbered now c number
  pub keyed : All (HasKeysIn i) c.documents

-- all its entries were removed
abbrev pub IsUnindexed : ℕ → Definition → List Edit → List Edit → List Collection → Collection
    → Unit {0} → Type 0
IsUnindexed number i before after now c u = HasRemovedEntries before after number i c.documents

-- ---- indexes

-- It is the collection of this name, and may have other indexes.
pub record HasOtherIndexes (cs : List Collection) (name : List ℕ) (c : Collection) : Type 0 where
  pub whole : Collection
  pub found : find_collection cs name ≡ Some whole
  pub same : c ≡ record whole { indexes = c.indexes }

abbrev pub drop_at : ℕ → Collection → Result Collection Refusal
drop_at at c = Ok (without_index_at c at)

abbrev pub drop_each : DroppedIndexes → Collection → Result Collection Refusal
drop_each dropped c = Ok (record c { indexes = remaining dropped c.indexes })
