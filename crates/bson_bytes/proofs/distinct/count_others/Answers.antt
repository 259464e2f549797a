use Rattle.std.proofs.Common.{◌∙◌, sym, arith}
use Rattle.bson_bytes.proofs.TableLaws.{lent, others_more, others_all, behind_next}
use Rattle.bson_bytes.proofs.distinct.count_others.Goals as goal

pub names-preserved : goal.names-preserved
names-preserved g c =
    let next = behind_next (g.P.NamedParts.names c.args.bytes.now) (g.P.NamedParts.names c.names.rest.now)
    (g.P.NamedParts.names c.in-Some.after.now) c.in-Some.name.now c.names.count c.names.invariant.1 c.in-Some.ensures.0 in (
      others_more (lent c.args.table.now) (g.P.NamedParts.names c.args.bytes.now)
          (g.P.NamedParts.names c.in-Some.after.now) c.names.count c.in-Some.name.now c.names.invariant.0 next.0 (c.is_in_table.ensures c.if-is_in_table.false),
      next.1,
      omega (arith, c.names.invariant.2, c.in-Some.ensures.1),
      omega arith,
    )

pub returns-clause-others : goal.returns-clause-others
returns-clause-others g c =
    others_all (lent c.args.table.now) (g.P.NamedParts.names c.args.bytes.now) c.names.count c.args.most c.names.invariant.0
    (sym c.names.invariant.1 ∙ c.in_default.ensures)
