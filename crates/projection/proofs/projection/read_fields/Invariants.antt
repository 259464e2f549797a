use Rattle.std.proofs.Common.{◌≡◌, drop}
use Rattle.bson.specs.View.{pairs_of}
use Rattle.projection.specs.ProjectionReading.{nothing_seen, read_flags}
use Rattle.projection.specs.Seen.{seen_of}
use Rattle.projection.proofs.projection.read_fields.Given as goal

abbrev pub invariant-pairs : goal.invariant-pairs
invariant-pairs l = read_flags (seen_of l.seen) (pairs_of (drop l.pair-index l.pair-items)) ≡ read_flags nothing_seen l.document
