use Rattle.std.proofs.Common.{◌≡◌, ℕ, suc, Option, ap, sym, ◌∙◌, arith}
use Rattle.driver_sockets.specs.Lending.{better, least_used}
use Rattle.driver_sockets.proofs.LoanLemmas.{found_rests, least_of_all}
use Rattle.driver_sockets.proofs.lending.Lending.least_used.Goals as goal

pub returns-after-numbers-clause-least : goal.returns-after-numbers-clause-least
returns-after-numbers-clause-least c =
    let all : c.numbers.number ≡ 64 = omega (arith, c.numbers-test.false, c.numbers.auto.number-end) in
    c.numbers.invariant ∙ ap (least_used c.args.self.now.loans c.args.counts.now) all

pub returns-after-numbers-clause-rest : goal.returns-after-numbers-clause-rest
returns-after-numbers-clause-rest c = found_rests c.args.self.now.loans c.args.counts.now c.numbers.number c.numbers.least c.numbers.invariant

pub returns-then-has_none-clause-least : goal.returns-then-has_none-clause-least
unfolding least_used
returns-then-has_none-clause-least c =
    let loans = c.args.self.now.loans in
    let counts = c.args.counts.now in
    let so_far : c.better-least.result ≡ least_used loans counts (suc c.numbers.number) =
    c.better-least.ensures ∙ ap (λ (least : Option ℕ). better loans counts least c.numbered.result) c.numbers.invariant
    ∙ ap (better loans counts (least_used loans counts c.numbers.number)) c.numbered.ensures in
    let none = sym c.has_none.ensures ∙ c.if-has_none.true in
    least_of_all loans counts (suc c.numbers.number) 64 c.better-least.result so_far none (omega (arith, c.numbers-test.true))

pub returns-then-has_none-clause-rest : goal.returns-then-has_none-clause-rest
unfolding least_used
returns-then-has_none-clause-rest c =
    let loans = c.args.self.now.loans in
    let counts = c.args.counts.now in
    let so_far : c.better-least.result ≡ least_used loans counts (suc c.numbers.number) =
    c.better-least.ensures ∙ ap (λ (least : Option ℕ). better loans counts least c.numbered.result) c.numbers.invariant
    ∙ ap (better loans counts (least_used loans counts c.numbers.number)) c.numbered.ensures in
    found_rests loans counts (suc c.numbers.number) c.better-least.result so_far
