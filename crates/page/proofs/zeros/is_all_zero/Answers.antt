use Rattle.std.proofs.Common.{◌≡◌, ◌∙◌, ◌-◌, length, drop, take, sym, ap, arith}
use Rattle.std.proofs.lemmas.Bool.Decides.{nat_tests}
use Rattle.std.specs.Prelude.{◌≢◌}
use Rattle.page.proofs.ZeroLemmas.{zeros_by_before}
use Rattle.page.proofs.zeros.is_all_zero.Goals as goal

pub returns-then-bytes-eq0 : goal.returns-then-bytes-eq0
returns-then-bytes-eq0 c =
    let some : length c.args.bytes.now ≢ 0 = grind (arith, nat_tests, c.is_empty.ensures, c.if-is_empty.false) in
    c.eq.ensures ∙ zeros_by_before c.args.bytes.now c.if-bytes-eq0.true some
