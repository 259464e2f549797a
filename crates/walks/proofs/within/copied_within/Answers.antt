use Rattle.std.proofs.Common.{◌≡◌, true, false, sym, ◌∙◌}
use Rattle.walks.proofs.WithinLemmas.{storable_within}
use Rattle.walks.proofs.within.copied_within.Goals as goal

pub returns-then-not-branch-clause-refuses : goal.returns-then-not-branch-clause-refuses
returns-then-not-branch-clause-refuses c = λ h.
    let both : true ≡ false = sym (storable_within c.args.document.now h) ∙ sym c.in_ok-is_within.ensures ∙ c.if-not-branch.true in
    absurd cc
