use Rattle.std.proofs.Common.{rules, ◌≡◌, ap, arith}
use Rattle.bson.specs.Lawful.{pairs_levels}
use Rattle.driver_replies.specs.Modifying.{done_with}
use Rattle.driver_replies.proofs.ModifyingLemmas.{done_is_flat}
use Rattle.driver_replies.proofs.modifying.done_with.Goals as goal

pub returns-clause-flat : goal.returns-clause-flat
returns-clause-flat c =
    let same : pairs_levels c.document.result.now ≡ pairs_levels c.args.subject.now = ap pairs_levels c.document.ensures.same in
    let is : c.add_upserted.new.done ≡ done_with c.args.is_removal c.args.is_new c.args.subject.now = search rules in
    done_is_flat c.args.is_removal c.args.is_new c.args.subject.now c.add_upserted.new.done (omega (arith, same, c.document.ensures.flat)) is
