use Rattle.std.proofs.Common.{List, take}
use Rattle.entry_model.specs.State.{Collection}
use Rattle.collections.specs.Lookups.{AreEach, IsNameOf, IsOfCollection}
use Rattle.collections.proofs.lookups.names_at.Given as goal

abbrev pub invariant-loop-entry : goal.invariant-loop-entry
invariant-loop-entry l = (cs : List Collection) → AreEach IsOfCollection l.entries cs → AreEach IsNameOf l.names.items (take l.entry-index cs)
