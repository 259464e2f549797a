use Rattle.std.proofs.Common.{◌∙◌, ◌-◌, sym, arith}
use Rattle.std.proofs.lemmas.List.{length-take}
use Rattle.bson_bytes.proofs.TableLaws.{apart_all, apart_next}
use Rattle.bson_bytes.proofs.distinct.count_by_tables.Goals as goal

pub returns-then-count-eq0 : goal.returns-then-count-eq0
returns-then-count-eq0 g c =
    apart_all c.tables.done c.tables.limit (g.P.NamedParts.names c.args.bytes.now) c.tables.invariant.0
    (sym c.tables.invariant.1
    ∙ c.compare_first-count.ensures.end (omega (arith, length-take c.min-most.result c.tables.table, c.min-most.array_long)) (omega arith))

pub tables-preserved-in-Some : goal.tables-preserved-in-Some
tables-preserved-in-Some g c =
    let next = apart_next g.P.NamedParts.names c.tables.done c.tables.limit c.compare_first-count.result.0 c.in-Some.others
    (c.tables.limit - c.tables.done - c.min-most.result) c.args.bytes.now c.tables.rest.now c.in-Some.after c.compare_first-count.result.1 c.tables.invariant.0
    c.tables.invariant.1
    c.in-Some.is c.compare_first-count.ensures.apart c.compare_first-count.ensures.rest
    (omega (arith, length-take c.min-most.result c.tables.table, c.min-most.array_long)) in
    (next.0, next.1, omega (arith, next.2), omega arith)
