use Rattle.std.proofs.Common.{◌+◌, ◌*◌, length}
use Rattle.path.proofs.setting.+setting.Given as goal

abbrev pub decreases-write : goal.decreases-write
decreases-write g l = 3 * length l.parts.now

abbrev pub decreases-write_within : goal.decreases-write_within
decreases-write_within g l = 3 * length l.parts.now + 1

abbrev pub decreases-write_field : goal.decreases-write_field
decreases-write_field g l = 3 * length l.rest.now + 2

abbrev pub decreases-write_item : goal.decreases-write_item
decreases-write_item g l = 3 * length l.rest.now + 2
