-- What putting edits into the tree does, and what a command says of its faults.
use Rattle.std.specs.Prelude.{ℕ, List, Result}
use Rattle.page.specs.History.{History}
use Rattle.btree.specs.Change.{Changes}
use Rattle.tree_model.specs.Keys.{Edit, Entry, change}
use Rattle.tree_model.specs.Reach.{HasMap}
use Rattle.tree_model.specs.declared.pages.TreeFault.{TreeFault}
use Rattle.tree_model.specs.declared.pages.TreeFault.TheVariants as faults
use Rattle.pager.specs.State.{State as PagerState}
use Rattle.pager.specs.View.{store_of}
use Rattle.path.specs.declared.refusal.Refusal.{Refusal}
use Rattle.path.specs.declared.refusal.Refusal.TheVariants as refusals

-- The tree of a pager was changed, whatever entries it has.
abbrev pub ChangesTree : {D : Type 0} → (D → History) → List Edit → ℕ → Result ℕ TreeFault
    → PagerState D → PagerState D → Type 0
ChangesTree history edits root result old new =
    (before : List ℕ) (entries : List Entry) → HasMap (store_of history old) root before entries
    → Changes (store_of history old) (store_of history new) (change edits entries) before result

abbrev pub refusal_of : TreeFault → Refusal
refusal_of faults.Memory = refusals.OutOfMemory
refusal_of faults.Full = refusals.Full
refusal_of faults.Device = refusals.StorageFailed
refusal_of faults.Kind = refusals.StorageFailed
refusal_of faults.Number = refusals.StorageFailed
refusal_of faults.Order = refusals.StorageFailed
refusal_of faults.Length = refusals.StorageFailed
