use Rattle.std.proofs.Common.{◌≡◌, ◌-◌, length}
use Rattle.driver_messages.specs.Seeking.{in_sections}
use Rattle.driver_messages.proofs.sections.foreign_in_sections.Given as goal

abbrev pub invariant-sections : goal.invariant-sections
invariant-sections l = in_sections (length l.bytes - l._step) l.rest ≡ in_sections (length l.bytes) l.bytes
