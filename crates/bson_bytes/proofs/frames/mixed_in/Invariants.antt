use Rattle.std.proofs.Common.{◌≡◌, drop}
use Rattle.bson_bytes.specs.Marks.{mixed}
use Rattle.bson_bytes.proofs.frames.mixed_in.Given as goal

abbrev pub invariant-bytes : goal.invariant-bytes
invariant-bytes l = mixed l.mixed (drop l.byte-index l.name) ≡ mixed 0 l.name
