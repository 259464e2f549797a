use Rattle.std.proofs.Common.{◌≡◌, true, FitsSigned, w64, sym, subst, ◌∙◌, arith}
use Rattle.ext_json.specs.Written.{is_int32}
use Rattle.std.proofs.lemmas.Int.{to_z-of_z}
use Rattle.json.specs.Print.{IsNumber}
use Rattle.json.proofs.Printed.Decimals.{IsNumber-signed_decimal}
use Rattle.ext_json.proofs.scalars.put_int64.Goals as goal

pub put_all-requires : goal.put_all-requires
put_all-requires c =
    let fits : FitsSigned w64 c.args.number = c.ranges.number in
    let text = simp to_z-of_z at c.format-text.ensures.text in
    (subst IsNumber (sym text) (IsNumber-signed_decimal c.args.number (omega arith)), tt)

pub returns-in-Canonical : goal.returns-in-Canonical
returns-in-Canonical c =
    let fits : FitsSigned w64 c.args.number = c.ranges.number in
    let text = simp to_z-of_z at c.format-text.ensures.text in
    rw (c.in-Canonical.is, ← text) c.put_text.ensures

pub returns-in-Relaxed : goal.returns-in-Relaxed
returns-in-Relaxed c =
    let fits : FitsSigned w64 c.args.number = c.ranges.number in
    let text = simp to_z-of_z at c.format-text.ensures.text in
    let is_small : is_int32 c.args.number ≡ true = sym (simp to_z-of_z at c.is_int32.ensures) ∙ c.if-is_int32.true in
    rw (c.in-Relaxed.is, is_small, ← text) c.put_text-in-Relaxed.ensures
