use Rattle.std.proofs.Common.{◌≡◌, true, false, sym, ◌∙◌}
use Rattle.walks.proofs.WalkLeftLemmas.{one_within}
use Rattle.walks.proofs.WithinLemmas.{storable_within, within_by}
use Rattle.walks.proofs.batches.offer_within.Goals as goal

pub returns-then-not-branch-clause-refuses : goal.returns-then-not-branch-clause-refuses
returns-then-not-branch-clause-refuses c = λ h.
    let both : true ≡ false = sym (storable_within c.args.document.now h) ∙ sym c.in_ok-is_within.ensures ∙ c.if-not-branch.true in
    absurd cc

pub offer-requires : goal.offer-requires
offer-requires c =
    one_within c.args.projection.now c.args.document.now (within_by c.args.document.now (sym c.in_ok-is_within.ensures ∙ c.if-not-branch.false))
