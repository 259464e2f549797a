use Rattle.std.proofs.Common.{arith}
use Rattle.bson_bytes.proofs.TableLaws.{filled_more}
use Rattle.bson_bytes.proofs.distinct.fill_table.Goals as goal

pub loop-count-preserved : goal.loop-count-preserved
loop-count-preserved g c = (
  filled_more c.loop-count.table c.in-Some.name c.loop-count.count (g.P.NamedParts.names c.args.bytes.now) (g.P.NamedParts.names c.loop-count.rest.now)
      (g.P.NamedParts.names c.in-Some.after.now) (omega arith) c.loop-count.invariant.0 c.in-Some.ensures.0,
  omega (arith, c.loop-count.invariant.1, c.in-Some.ensures.1),
)
