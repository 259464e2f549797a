use Rattle.std.proofs.Common.{◌∙◌}
use Rattle.path.proofs.PathSetLemmas.{ended}
use Rattle.path.proofs.path_order.compare.Goals as goal

pub returns : goal.returns
returns c = c.cmp-2.ensures ∙ ended c.args.a.now c.args.b.now c.parts.i c.parts-test.false c.parts.auto.i-end c.parts.invariant.within c.parts.invariant.same
