-- What functions that seek return, beside what the definitions give.
use Rattle.std.specs.Prelude.{Option, Some, None, Result, Ok, Err}
use Rattle.bson_bytes.specs.declared.fault.BsonFault.{BsonFault}
use Rattle.bson.specs.declared.kind.Kind.{Kind}
use Rattle.driver_messages.specs.Seeking.{Place}
use Rattle.driver_messages.specs.Seeking as spec
use Rattle.driver_messages.specs.declared.seeking.Sought.{Sought}
use Rattle.driver_messages.specs.declared.seeking.Sought.TheVariants as seeks

-- a step, where one has gone to this place
abbrev pub seek_of : Sought → Place → spec.Seek
seek_of (seeks.On rest) place = Ok (place, rest.now)
seek_of (seeks.Found type) place = Err (Some (type, place))
seek_of seeks.Ended place = Err None

abbrev pub kind_or_none : Result Kind BsonFault → Option Kind
kind_or_none (Ok k) = Some k
kind_or_none (Err fault) = None
