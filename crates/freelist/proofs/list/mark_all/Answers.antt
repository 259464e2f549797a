use Rattle.std.proofs.Common.{arith, refl}
use Rattle.freelist.proofs.Marking.{marks_more, one_stands_there}
use Rattle.freelist.proofs.list.mark_all.Goals as goal

pub returns-then-not-mark-clause-marks : goal.returns-then-not-mark-clause-marks
returns-then-not-mark-clause-marks c =
    one_stands_there c.args.pages.now c.pages.page-index c.args.seen.now c.pages.seen c.pages-test.true c.pages.invariant.marks
    c.if-not-mark.ensures.marks

pub pages-preserved : goal.pages-preserved
pages-preserved c = record {
  marks = marks_more c.args.pages.now c.pages.page-index c.args.seen.now c.pages.seen c.mark.new.seen c.pages-test.true c.pages.invariant.marks
      c.if-not-mark.ensures.marks;
  fewer = omega (arith, c.if-not-mark.ensures.fewer refl, c.pages.invariant.fewer);
}
