use Rattle.std.proofs.Common.{◌≡◌, ◌-◌}
use Rattle.driver_messages.specs.Seeking.{seek}
use Rattle.driver_messages.proofs.seeking.seek.Given as goal

abbrev pub invariant-steps : goal.invariant-steps
invariant-steps l = seek (l.most - l._step) l.place l.rest ≡ seek l.most l.fn.place l.bytes
