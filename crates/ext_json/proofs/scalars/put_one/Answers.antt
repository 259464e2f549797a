use Rattle.std.proofs.Common.{lit<, subst}
use Rattle.std.proofs.lemmas.Fmt.{decimal_digit}
use Rattle.json.specs.Print.{IsNumber}
use Rattle.json.proofs.Printed.Decimals.{IsNumber-decimal}
use Rattle.ext_json.proofs.scalars.put_one.Goals as goal

pub put_all-requires : goal.put_all-requires
put_all-requires c = (tt, (tt, (subst IsNumber (decimal_digit 1 (lit< tt)) (IsNumber-decimal 1 (lit< tt)), (tt, tt))))
