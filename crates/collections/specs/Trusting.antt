-- Collections on a disk whose word counts only where something is true.
use Rattle.std.specs.Prelude.{Bool, IsTrue, List}
use Rattle.page.specs.History.{History}
use Rattle.trusted_disk.specs.Trusting.{trusted_history}
use Rattle.trusted_disk.specs.Trusting as disks
use Rattle.trusted_disk.specs.declared.disk.TrustedDisk.{TrustedDisk}
use Rattle.pager.specs.Trusting.{trusting_pager}
use Rattle.entry_model.specs.State.{Collection}
use Rattle.collections.specs.State.{State}
use Rattle.collections.specs.Standing.{HasState}

-- the same collections, on the same disk
abbrev pub trusting_state : {D : Type 0} → Bool → State D → State (TrustedDisk D)
trusting_state b c = record { pager = trusting_pager b c.pager; root = c.root }

-- whether their disk is trusted
abbrev pub is_trusted : {D : Type 0} → State (TrustedDisk D) → Bool
is_trusted c = disks.is_trusted c.pager.store.disk

-- each moment of the disk itself so far
abbrev pub inner_history : {D : Type 0} → (D → History) → State (TrustedDisk D) → History
inner_history history c = disks.disk_history history c.pager.store.disk

-- A state that collections have where this is true they have on the disk that is trusted so.
abbrev pub TrustingKeepsState : {D : Type 0} → (D → History) → Type 0
TrustingKeepsState {D = D} history =
    (b : Bool) (c : State D) (start now : List Collection)
    → (IsTrue b → HasState history c start now)
    → HasState (trusted_history history) (trusting_state b c) start now
