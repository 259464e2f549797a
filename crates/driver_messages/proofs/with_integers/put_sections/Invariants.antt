use Rattle.std.proofs.Common.{◌≡◌, ◌-◌, ◌++◌}
use Rattle.driver_messages.specs.WithIntegers.{sections_with}
use Rattle.driver_messages.proofs.with_integers.put_sections.Given as goal

abbrev pub invariant-sections : goal.invariant-sections
invariant-sections l = l.out.items ++ sections_with (l.most - l._step) l.rest ≡ l.fn.out.items ++ sections_with l.most l.bytes
