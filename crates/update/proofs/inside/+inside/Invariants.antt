use Rattle.std.proofs.Common.{◌+◌, ◌*◌, length}
use Rattle.update.proofs.inside.+inside.Given as goal

abbrev pub decreases-change_inside : goal.decreases-change_inside
decreases-change_inside l = 2 * length l.parent.now

abbrev pub decreases-change_in_field : goal.decreases-change_in_field
decreases-change_in_field l = 2 * length l.rest.now + 1

abbrev pub decreases-change_in_item : goal.decreases-change_in_item
decreases-change_in_item l = 2 * length l.rest.now + 1
