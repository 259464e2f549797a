use Rattle.std.proofs.Common.{◌≡◌, ℕ, suc, ◌+◌, None, take, drop, set, map, ap, sym, ◌∙◌, arith}
use Rattle.driver_sockets.specs.Lending.{after_end}
use Rattle.driver_sockets.proofs.EachLemmas.{one_more}
use Rattle.driver_sockets.proofs.lending.end_loans.Goals as goal

pub loans-preserved : goal.loans-preserved
loans-preserved c =
    let i = c.loans.number in
    let first = c.args.loans.now in
    let f = after_end c.args.socket in
    let new = c.end_loan.new.loan in
    let s = one_more f c.loans.loans first i None new
    (omega (arith, c.loans-test.true, c.loans.auto.loans)) c.loans.invariant.done c.loans.invariant.left c.end_loan.ensures in
    let next : i + 1 ≡ suc i = omega arith in
    record {
      done = ap (λ (m : ℕ). take m (set c.loans.loans i new)) next ∙ s.done ∙ ap (λ (m : ℕ). map f (take m first)) (sym next);
      left = ap (λ (m : ℕ). drop m (set c.loans.loans i new)) next ∙ s.left ∙ ap (λ (m : ℕ). drop m first) (sym next);
    }
