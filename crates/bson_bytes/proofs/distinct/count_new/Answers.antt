use Rattle.std.proofs.Common.{sym, ◌∙◌}
use Rattle.bson_bytes.proofs.TableLaws.{new_lent}
use Rattle.bson_bytes.proofs.distinct.count_new.Goals as goal

pub names-preserved : goal.names-preserved
names-preserved c =
    new_lent c.args.names.now c.names.at _ c.names-test.true c.names.invariant (sym c.is_among.ensures ∙ c.if-is_among.false)
