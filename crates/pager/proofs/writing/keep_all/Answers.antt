use Rattle.std.proofs.Common.{ap, sym}
use Rattle.page.specs.Format.{PageModel}
use Rattle.pager.proofs.MemberLemmas.{among_at, keeps_more}
use Rattle.pager.proofs.writing.keep_all.Goals as goal

pub loop-shared-preserved : goal.loop-shared-preserved
loop-shared-preserved c =
    keeps_more c.args.pages.now c.args.cache.now c.loop-shared.cache c.keep_page.new.cache c.image-image.result.now.page c.shared-item.result
    c.loop-shared.invariant
    c.keep_page.ensures
    (ap (λ (m : PageModel). m.page) (sym c.image-image.ensures))
    (among_at c.args.pages.now c.loop-shared.shared-index c.shared-item.result c.shared-item.result c.shared-item.is c.loop-shared-test.true)
