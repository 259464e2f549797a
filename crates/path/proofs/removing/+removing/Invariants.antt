use Rattle.std.proofs.Common.{◌+◌, ◌*◌, length}
use Rattle.path.proofs.removing.+removing.Given as goal

abbrev pub decreases-cut : goal.decreases-cut
decreases-cut l = 2 * length l.parts.now

abbrev pub decreases-cut_field : goal.decreases-cut_field
decreases-cut_field l = 2 * length l.rest.now + 1

abbrev pub decreases-cut_item : goal.decreases-cut_item
decreases-cut_item l = 2 * length l.rest.now + 1
