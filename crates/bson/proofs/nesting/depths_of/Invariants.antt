use Rattle.std.proofs.Common.{take}
use Rattle.bson.specs.View.{items_of}
use Rattle.bson.specs.Overview.{CountsItems}
use Rattle.bson.proofs.nesting.depths_of.Given as goal

abbrev pub invariant-items : goal.invariant-items
invariant-items l = CountsItems l.depths (items_of (take l.item-index l.items))
