use Rattle.pager.proofs.MemberLemmas.{forgets_more}
use Rattle.pager.proofs.writing.forget_all.Goals as goal

pub loop-page-preserved : goal.loop-page-preserved
loop-page-preserved c =
    forgets_more c.args.pages.now c.loop-page.page-index 0 c.args.cache.now c.loop-page.cache c.remove.new.self c.loop-page-test.true c.loop-page.invariant
    c.remove.ensures.this c.remove.ensures.others
