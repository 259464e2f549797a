-- What functions that read messages take, beside what the definitions have.
use Rattle.std.specs.Prelude.{[], Option}
use Rattle.driver_messages.specs.Seeking.{foreign_in, foreign_in_sections}
use Rattle.driver_messages.specs.declared.foreign.Foreign.{Foreign}
use Rattle.driver_messages.specs.declared.wire.Spelled.{Spelled}
use Rattle.driver_messages.specs.declared.wire.Spelled.TheVariants as spelled

-- the first value of a foreign type in these bytes
abbrev pub found_in : Spelled → Option Foreign
found_in (spelled.Sections bytes) = foreign_in_sections bytes.now
found_in (spelled.Document bytes) = foreign_in [] bytes.now
