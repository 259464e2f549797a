use Rattle.std.proofs.Common.{◌≡◌, ◌+◌, ◌*◌, ◌++◌, length, drop, map}
use Rattle.bson.specs.View.{items_of}
use Rattle.path.specs.Reach.{reach, in_elements}
use Rattle.path.specs.View.{reached}
use Rattle.path.proofs.reaching.+gathering.Given as goal

abbrev pub decreases-gather : goal.decreases-gather
decreases-gather l = 3 * length l.parts.now

abbrev pub decreases-gather_field : goal.decreases-gather_field
decreases-gather_field l = 3 * length l.rest.now + 1

abbrev pub decreases-gather_items : goal.decreases-gather_items
decreases-gather_items l = 3 * length l.rest.now + 2

abbrev pub invariant-gather_items-items : goal.invariant-gather_items-items
invariant-gather_items-items l =
    map reached l.out.items ++ in_elements (reach l.rest) l.part (items_of (drop l.item-index l.items))
    ≡ map reached l.initial.out.items ++ in_elements (reach l.rest) l.part (items_of l.items)
