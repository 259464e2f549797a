use Rattle.std.proofs.lemmas.Bool.{eqb-true}
use Rattle.bson_bytes.proofs.DistinctLaws.{ascending_next}
use Rattle.bson_bytes.proofs.distinct.count_ascending.Goals as goal

pub names-preserved : goal.names-preserved
names-preserved g c =
    ascending_next g.P.NamedParts.names c.names.count c.names.last.now c.names.rest.now c.args.bytes.now c.in-Some.name.now c.in-Some.after.now
    c.is_above.result _ c.names.invariant c.in-Some.ensures c.if-not-is_above.false c.is_above.ensures (λ e. eqb-true c.names.count 0 e)
