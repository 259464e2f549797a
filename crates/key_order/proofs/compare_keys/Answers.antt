use Rattle.std.proofs.Common.{sym, ◌∙◌}
use Rattle.std.specs.Cmp.Lexicographic.{slice_cmp}
use Rattle.std.specs.Ordering.{nat_cmp}
use Rattle.key_order.proofs.CompareLemmas.{differ_first}
use Rattle.key_order.proofs.compare_keys.Goals as goal

pub returns-then-number-second : goal.returns-then-number-second
returns-then-number-second c =
    let first = c.in-Some in
    let second = c.in-Some-split_eight in
    c.cmp.ensures
    ∙ differ_first first.number second.second first.after.now second.behind.now first.ensures.fits second.ensures.fits c.if-number-second.true
    ∙ sym (λ i. slice_cmp nat_cmp (first.ensures.parts i) (second.ensures.parts i)) ∙ c.eights.invariant
