use Rattle.std.proofs.Common.{FitsSigned, w32, sym, subst, arith}
use Rattle.std.proofs.lemmas.Int.{to_z-of_z}
use Rattle.json.specs.Print.{IsNumber}
use Rattle.json.proofs.Printed.Decimals.{IsNumber-signed_decimal}
use Rattle.ext_json.proofs.scalars.put_int32.Goals as goal

pub put_all-requires : goal.put_all-requires
put_all-requires c =
    let fits : FitsSigned w32 c.args.number = c.ranges.number in
    let text = simp to_z-of_z at c.format-text.ensures.text in
    (subst IsNumber (sym text) (IsNumber-signed_decimal c.args.number (omega arith)), tt)

pub returns-in-Canonical : goal.returns-in-Canonical
returns-in-Canonical c =
    let fits : FitsSigned w32 c.args.number = c.ranges.number in
    let text = simp to_z-of_z at c.format-text.ensures.text in
    rw (c.in-Canonical.is, ← text) c.put_text.ensures
