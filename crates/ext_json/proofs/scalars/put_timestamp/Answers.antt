use Rattle.std.proofs.Common.{sym, subst, arith, ◌/◌, ◌%◌, ◌^◌}
use Rattle.json.specs.Print.{IsNumber}
use Rattle.json.proofs.Printed.Decimals.{IsNumber-decimal}
use Rattle.ext_json.proofs.scalars.put_timestamp.Goals as goal

pub put_halves-requires-clause-seconds : goal.put_halves-requires-clause-seconds
put_halves-requires-clause-seconds c = subst IsNumber (sym c.format.ensures.text) (IsNumber-decimal (c.args.number / 2 ^ 32) (omega (arith, c.ranges.number)))

pub put_halves-requires-clause-count : goal.put_halves-requires-clause-count
put_halves-requires-clause-count c = subst IsNumber (sym c.format-2.ensures.text) (IsNumber-decimal (c.args.number % 2 ^ 32) (omega arith))
