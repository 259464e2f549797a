use Rattle.std.proofs.Common.{◌≡◌, take}
use Rattle.bson.specs.View.{items_of}
use Rattle.bson.specs.Lawful.{items_levels}
use Rattle.bson.proofs.nesting.deepest.Given as goal

abbrev pub invariant-items : goal.invariant-items
invariant-items l = l.levels ≡ items_levels (items_of (take l.item-index l.items))
