use Rattle.std.proofs.Common.{◌≡◌, ℕ, true, lit<, FitsSigned, w32, rules}
use Rattle.std.proofs.lemmas.Int.{to_z-of_z}
use Rattle.ext_json.specs.Numbers.{is_whole, int32_in}
use Rattle.ext_json.specs.declared.fault.ExtJsonFault.TheVariants as faults
use Rattle.ext_json.proofs.NumberLemmas.{whole_ok, whole_fails}
use Rattle.ext_json.proofs.numbers.read_int32.Goals as goal

pub returns-in-Ok : goal.returns-in-Ok
unfolding int32_in
returns-in-Ok c =
    let is : is_whole c.args.text.now ≡ true = search rules in
    let fits : FitsSigned w32 c.in-Ok.number = search rules in
    simp to_z-of_z (whole_ok ℕ w32 (lit< tt) faults.Wrapper c.args.text.now c.in-Ok.number c.in-Ok.ensures.value.0 is)

pub returns-in-Err : goal.returns-in-Err
unfolding int32_in
returns-in-Err c =
    let is : is_whole c.args.text.now ≡ true = search rules in
    whole_fails _ w32 (lit< tt) faults.Wrapper c.args.text.now c.in-Err.field-0 c.in-Err.ensures.value.0 is
