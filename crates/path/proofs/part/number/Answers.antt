use Rattle.std.proofs.Common.{◌≡◌, ◌∷◌, ◌+◌, ◌*◌, ◌-◌, suc, [], List, ℕ, drop, get_or, min, ap, sym, ◌∙◌, arith, drop-cons}
use Rattle.std.proofs.lemmas.List.{drop_all}
use Rattle.path.specs.Parts.{number}
use Rattle.path.proofs.NameLemmas.{number_step}
use Rattle.path.proofs.part.number.Goals as goal

pub digits-preserved : goal.digits-preserved
digits-preserved c =
    let next : suc c.digits.digit-index ≡ c.digits.digit-index + 1 = omega arith in
    let b : ℕ = get_or c.args.digits.now c.digits.digit-index 0 in
    let left : drop c.digits.digit-index c.args.digits.now ≡ b ∷ drop (c.digits.digit-index + 1) c.args.digits.now =
    drop-cons c.args.digits.now c.digits.digit-index 0 c.digits-test.true ∙ ap (λ (i : ℕ). b ∷ drop i c.args.digits.now) next in
    let whole : c.saturating_add-number.result ≡ min 18446744073709551615 (c.digits.number * 10 + (b - 48)) = omega arith in
    record {
      fits = omega arith;
      same = number_step 18446744073709551615 c.digits.number c.saturating_add-number.result (number 0 c.args.digits.now) b
          (drop (c.digits.digit-index + 1) c.args.digits.now) (drop c.digits.digit-index c.args.digits.now) left whole c.digits.invariant.same;
    }

pub returns : goal.returns
returns c =
    let none : drop c.digits.digit-index c.args.digits.now ≡ [] = drop_all c.digits.digit-index c.args.digits.now c.digits-test.false in
    let whole : min 18446744073709551615 c.digits.number ≡ c.digits.number = omega (arith, c.digits.invariant.fits) in
    sym whole ∙ sym (ap (λ (l : List ℕ). min 18446744073709551615 (number c.digits.number l)) none) ∙ c.digits.invariant.same
