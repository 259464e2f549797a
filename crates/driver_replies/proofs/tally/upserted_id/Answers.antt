use Rattle.std.proofs.Common.{◌∙◌, ap}
use Rattle.driver_replies.specs.Tallies.{first_id_in}
use Rattle.driver_replies.proofs.BatchLemmas.{id_is_flat}
use Rattle.driver_replies.proofs.tally.upserted_id.Goals as goal

pub returns-clause-flat : goal.returns-clause-flat
returns-clause-flat c =
    id_is_flat c.args.reply.now c.first_id_in.result c.levels-levels.ensures.lawful (c.first_id_in.ensures ∙ ap first_id_in c.get.ensures)
