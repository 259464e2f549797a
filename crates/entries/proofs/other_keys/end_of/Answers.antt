use Rattle.std.proofs.Common.{◌≡◌, ◌-◌, List, ℕ, ◌++◌, true, arith, subst, sym}
use Rattle.std.specs.Ordering.{is_lt}
use Rattle.tree_model.specs.Keys.{key_cmp}
use Rattle.entries.proofs.FrontLemmas.{under_end}
use Rattle.entries.proofs.other_keys.end_of.Goals as goal

pub returns-then-front-at-lt255 : goal.returns-then-front-at-lt255
returns-then-front-at-lt255 c =
    let front = c.args.front.now in
    λ rest.
    subst (λ (k : List ℕ). is_lt (key_cmp (front ++ rest) k) ≡ true) (sym c.in_ok-above.ensures)
    (under_end front (c.loop-at.at - 1) 0 rest (omega (arith, c.loop-at-test.true, c.loop-at.auto.at)))
