use Rattle.std.proofs.Common.{◌≡◌, true, rules}
use Rattle.ext_json.specs.Numbers.{are_digits}
use Rattle.ext_json.proofs.NumberLemmas.{half_fails}
use Rattle.ext_json.proofs.numbers.read_half.Goals as goal

pub returns-in-Err : goal.returns-in-Err
returns-in-Err c =
    let is : are_digits c.args.text.now ≡ true = search rules in
    half_fails c.args.text.now c.in-Err.field-0 is c.in-Err.ensures.value.0
