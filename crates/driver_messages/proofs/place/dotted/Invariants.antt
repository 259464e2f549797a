use Rattle.std.proofs.Common.{◌≡◌, ◌++◌, drop, map, string_bytes}
use Rattle.driver_messages.specs.Seeking.{dotted, more_dotted}
use Rattle.driver_messages.proofs.place.dotted.Given as goal

abbrev pub invariant-others : goal.invariant-others
invariant-others l = string_bytes l.text ++ more_dotted (map (λ s. s.now) (drop l.name-index l.others)) ≡ dotted (map (λ s. s.now) l.fn.names)
