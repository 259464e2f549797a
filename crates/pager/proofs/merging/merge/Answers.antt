use Rattle.std.proofs.Common.{arith, inl, inr}
use Rattle.pager.proofs.MergeLemmas.{merged_done}
use Rattle.pager.proofs.merging.merge.Goals as goal
use Rattle.pager.proofs.merging.merge.Goals.{then-loop-i-test+else-j-other, else-loop-i-test}

pub returns : goal.returns
returns c =
    merged_done c.loop-i.pages.items c.args.one.now c.args.other.now c.put_all.new.pages.items c.put_all-2.new.pages.items c.loop-i.i c.loop-i.j
    (elim c.loop-i-test.branch [
      | then-loop-i-test+else-j-other w ↦ inr (omega (arith, w.if-j-other.false))
      | else-loop-i-test w ↦ inl (omega (arith, w.loop-i-test.false))
    ])
    c.loop-i.invariant.2 c.in_ok-put_all.ensures c.in_ok-put_all-2.ensures
