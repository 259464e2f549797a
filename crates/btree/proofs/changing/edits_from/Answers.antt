use Rattle.std.proofs.Common.{◌∙◌, arith}
use Rattle.btree.proofs.ChangingLemmas.{behind_more}
use Rattle.btree.proofs.changing.edits_from.Goals as goal

pub loop-from-preserved : goal.loop-from-preserved
loop-from-preserved c =
    record {
      within = omega (arith, c.loop-from.invariant.within);
      behind = behind_more c.args.edits.now c.loop-from.from c.args.key.now _ c.loop-from-test.true c.loop-from.invariant.within
          (λ u. c.in_default.not-Less (c.compare_keys.ensures ∙ u)) c.loop-from.invariant.behind;
    }
