-- What the reading of a projection holds.
use Rattle.projection.specs.ProjectionReading.{Seen}
use Rattle.projection.specs.declared.projection.ProjectionFields.{ProjectionFields as Held}

abbrev pub seen_of : Held → Seen
seen_of s = record { fields = s.fields; id = s.id; paths = s.paths }
