use Rattle.std.proofs.Common.{arith}
use Rattle.bson.proofs.OverviewLaws.{tells-empty, tells_one_more}
use Rattle.bson.proofs.overview.Overview.of_pairs.Goals as goal

pub pairs-init : goal.pairs-init
pairs-init c = tells-empty _ c.new.ensures.empty c.new-2.ensures

pub pairs-preserved : goal.pairs-preserved
pairs-preserved c =
    tells_one_more c.pairs.overview c.add.new.self c.args.pairs.now c.pairs.at c.index-pairs-at.result c.as_str.result.now c.levels.result
    c.as_str.ensures.value c.requires c.pairs-test.true c.index-pairs-at.is c.in_ok-add.ensures (omega arith) c.levels.ensures.levels c.pairs.invariant
