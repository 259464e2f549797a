use Rattle.std.proofs.Common.{◌∙◌, sym}
use Rattle.driver_replies.proofs.BatchLemmas.{none_first}
use Rattle.driver_replies.proofs.batch.drop_first.Goals as goal

pub returns-then-is_empty : goal.returns-then-is_empty
returns-then-is_empty c = none_first c.args.statements.now (sym c.is_empty.ensures ∙ c.if-is_empty.true)
