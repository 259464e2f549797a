use Rattle.std.proofs.Common.{◌∙◌, false, true}
use Rattle.freelist.proofs.Marking.{one_fewer, stands_there}
use Rattle.std.proofs.lemmas.List.{get_or_default, get_or_past}
use Rattle.freelist.proofs.list.mark.Goals as goal

pub returns-then-at-seen-clause-marks : goal.returns-then-at-seen-clause-marks
returns-then-at-seen-clause-marks c = stands_there _ c.args.page (get_or_past c.args.seen.now c.args.page true c.if-at-seen.true)

pub returns-clause-fewer : goal.returns-clause-fewer
returns-clause-fewer c =
    λ _. one_fewer c.args.seen.now c.args.page
    (get_or_default c.args.seen.now c.args.page true false c.if-at-seen.false ∙ c.if-seen-at.false)
