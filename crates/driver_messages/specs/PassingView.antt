-- What functions that pass over values return, beside what the definitions give.
use Rattle.driver_messages.specs.Seeking.{Place}
use Rattle.driver_messages.specs.WithIntegers as spec
use Rattle.driver_messages.specs.declared.passing.Passed.{Passed}
use Rattle.driver_messages.specs.declared.passing.Passed.TheVariants as passes

-- what was passed, where one has gone to this place
abbrev pub passed_of : Passed → Place → spec.Passed
passed_of (passes.Kept count) place = spec.kept count place
passed_of (passes.Integer name number) place = spec.integer name.now number place
passed_of passes.Ended place = spec.ended
