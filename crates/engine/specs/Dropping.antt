-- Documents that are noted as removed from the file, batch after batch, until their collection has
-- none.
use Rattle.std.specs.Prelude.{◌≡◌, Bool, false, List, [], All}
use Rattle.bson.specs.Tree.{Pairs}
use Rattle.tree_model.specs.Keys.{Edit}
use Rattle.collections.specs.Walk.{IsWalk}
use Rattle.collections.specs.declared.walk.Walk.{Walk}
use Rattle.entry_model.specs.Documents.{with_documents}
use Rattle.entry_model.specs.LawfulState.{IsLawfulState}
use Rattle.entry_model.specs.State.{Collection}
use Rattle.entry_model.specs.StateEntries.{Leads}
use Rattle.entries.specs.declared.catalogue_reading.Catalogued.{Catalogued}
use Rattle.engine.specs.TakingOut.{IsHome, IsIndexable}

-- The edits lead to the collections with these documents alone in one of them.
abbrev pub IsLeft : List Collection → Collection → List Edit → List Pairs → Type 0
IsLeft now c edits rest = IsLawfulState now
    → Leads edits now (with_documents c rest now) × IsLawfulState (with_documents c rest now)

-- a collection that loses all its documents, of which these are left
pub record Emptied : Type 0 where
  pub collection : Collection
  pub rest : List Pairs

-- The catalogue has this of it, and the edits leave all its documents.
pub record IsFilled (home : Catalogued) (edits : List Edit) (now : List Collection)
    (c : Collection) : Type 0 where
  pub catalogued : IsHome now c home
  pub leads : IsLeft now c edits c.documents

-- The edits leave those documents that are still to come in a walk.
pub record IsEmptying (home : Catalogued) (walk : Walk) (edits : List Edit) (now : List Collection)
    (x : Emptied)
    : Type 0 where
  pub catalogued : IsHome now x.collection home
  pub walks : IsWalk now walk x.rest
  pub indexable : IsLawfulState now → All (IsIndexable home.indexes.items) x.rest
  pub leads : IsLeft now x.collection edits x.rest

-- so of fewer documents, and of none where there was no batch
pub record HasStepped (home : Catalogued) (walk : Walk) (edits : List Edit) (now : List Collection)
    (x : Emptied)
    (more : Bool) : Type 0 where
  pub rest : List Pairs
  pub emptying : IsEmptying home walk edits now (record { collection = x.collection; rest = rest })
  pub none : more ≡ false → rest ≡ []
