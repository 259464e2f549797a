use Rattle.std.proofs.Common.{arith}
use Rattle.bson.proofs.BuildLaws.{pairs_levels-more}
use Rattle.bson.proofs.beside.deepest.Goals as goal

pub pairs-preserved : goal.pairs-preserved
pairs-preserved c =
    omega (
      arith,
      c.max-levels.ensures,
      c.levels.ensures.levels,
      c.pairs.invariant,
      pairs_levels-more c.args.pairs.now c.pairs.pair-index c.pair-item.result c.pairs-test.true c.pair-item.is,
    )
