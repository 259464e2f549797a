use Rattle.std.proofs.Common.{take, arith}
use Rattle.std.proofs.lemmas.List.{length-take}
use Rattle.bson_bytes.proofs.TableLaws.{table_apart}
use Rattle.bson_bytes.proofs.distinct.compare_first.Goals as goal

pub returns-then-are_ascending-clause-apart : goal.returns-then-are_ascending-clause-apart
returns-then-are_ascending-clause-apart g c = (
  c.count_others-others.ensures.within,
  table_apart c.fill_table-count.result.0 c.count_others-others.result (g.P.NamedParts.names c.args.bytes.now)
      (g.P.NamedParts.names c.fill_table-count.result.1.now) (take c.fill_table-count.result.0 c.fill_table-count.new.table) c.sort_unstable.new.self
      c.fill_table-count.ensures.names
      (omega (arith, length-take c.fill_table-count.result.0 c.fill_table-count.new.table, c.fill_table-count.ensures.within))
      c.sort_unstable.ensures.permutation (c.are_ascending.ensures c.if-are_ascending.true) c.count_others-others.ensures.others,
)
