use Rattle.std.proofs.Common.{◌≡◌, ◌-◌, ◌++◌}
use Rattle.driver_messages.specs.WithIntegers.{elements_with}
use Rattle.driver_messages.proofs.with_integers.put_elements.Given as goal

abbrev pub invariant-steps : goal.invariant-steps
invariant-steps l = l.out.items ++ elements_with (l.most - l._step) l.place l.rest ≡ l.fn.out.items ++ elements_with l.most l.fn.place l.bytes
