-- What a dump is given: the documents of a collection, in ascending order of `_id`, a batch at a
-- time.
use Rattle.std.specs.Prelude.{◌≡◌, ⊤, ℕ, List, Some, None, Result, MatchResult}
use Rattle.std.specs.Global.{Vec}
use Rattle.bson.specs.Tree.{Pairs}
use Rattle.page.specs.History.{History, KeepsWord}
use Rattle.entry_model.specs.State.{Collection, find_collection}
use Rattle.collections.specs.Calls.{HasFailed}
use Rattle.collections.specs.Walk.{IsWalk, StepsOn}
use Rattle.collections.specs.declared.walk.Walk.{Walk}
use Rattle.engine.specs.Durable.{disk_history, file_of}
use Rattle.engine.specs.Looking.{OnlyReads}
use Rattle.engine.specs.View.{world}
use Rattle.engine.specs.declared.check_fault.CheckFault.{CheckFault}
use Rattle.engine.specs.declared.check_fault.CheckFault.TheVariants as faults
use Rattle.engine.specs.declared.engine.Engine.{Engine}

-- Why reading ended early: the device failed in the call or before, or what was asked for is
-- missing. Memory may always run out.
abbrev pub HasFaultCause : {D : Type 0} → (D → History) → Type 0 → Engine D → Engine D
    → CheckFault → Type 0
HasFaultCause history IsMissing old new faults.Device =
    HasFailed history (file_of old) (file_of new)
HasFaultCause history IsMissing old new faults.Memory = ⊤
HasFaultCause history IsMissing old new faults.Damaged = ⊥
HasFaultCause history IsMissing old new faults.NamespaceNotFound = IsMissing

-- A walk that begins with all documents of the collection of that name.
pub record WalksThrough (now : List Collection) (name : List ℕ) (walk : Walk) : Type 0 where
  pub collection : Collection
  pub found : find_collection now name ≡ Some collection
  pub all : IsWalk now walk collection.documents

-- A walk through the collection of that name was begun. The fault `NamespaceNotFound` says that
-- there is none.
pub record BeginsDump {D : Type 0} (history : D → History) (name : List ℕ)
    (result : Result Walk CheckFault) (old new : Engine D) : Type 0 where
  pub reads : OnlyReads history old new
  pub answers : KeepsWord (disk_history history new)
      → MatchResult result (WalksThrough (world old).collections name)
      (HasFaultCause history (find_collection (world old).collections name ≡ None) old new)

-- Of the documents that are still to come the next ones were given, at most 64, and none only where
-- none is to come.
pub record GoesOnDumping {D : Type 0} (history : D → History) (walk after : Walk)
    (result : Result (Vec Pairs) CheckFault) (old new : Engine D) : Type 0 where
  pub reads : OnlyReads history old new
  pub answers : KeepsWord (disk_history history new) → (rest : List Pairs)
      → IsWalk (world old).collections walk rest
      → MatchResult result (λ batch. StepsOn 64 after (world old).collections rest batch.items)
      (HasFaultCause history ⊥ old new)
