use Rattle.std.proofs.Common.{◌+◌, ◌*◌, length}
use Rattle.update.proofs.touching.+touching.Given as goal

abbrev pub decreases-touch_inside : goal.decreases-touch_inside
decreases-touch_inside l = 2 * length l.parts.now

abbrev pub decreases-touch_in_field : goal.decreases-touch_in_field
decreases-touch_in_field l = 2 * length l.rest.now + 1
