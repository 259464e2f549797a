use Rattle.std.proofs.Common.{arith, ap, take, ◌∙◌, sym, length}
use Rattle.freelist.specs.Book.{Book, retired, undone}
use Rattle.pager.proofs.BookLemmas.{all_longer, back_all, retired_more}
use Rattle.pager.proofs.writing.retire_all.Goals as goal

pub returns-in_err-retire-clause-back : goal.returns-in_err-retire-clause-back
returns-in_err-retire-clause-back c =
    ap (undone (length c.args.book.now.turn)) (c.in_err-retire.ensures.err ∙ c.loop-page.invariant)
    ∙ back_all c.args.version (take c.loop-page.page-index c.args.pages.now) c.args.book.now

pub returns-in_err-retire-clause-longer : goal.returns-in_err-retire-clause-longer
returns-in_err-retire-clause-longer c =
    let is = c.in_err-retire.ensures.err ∙ c.loop-page.invariant in
    omega (arith, ap (λ (b : Book). length b.turn) is, all_longer c.args.version (take c.loop-page.page-index c.args.pages.now) c.args.book.now)

pub loop-page-preserved : goal.loop-page-preserved
loop-page-preserved c =
    c.in_ok-retire.ensures.retired ∙ ap (retired _ c.args.version) c.loop-page.invariant
    ∙ sym (retired_more c.args.version c.args.pages.now c.loop-page.page-index 0 c.args.book.now c.loop-page-test.true)

pub returns-clause-back : goal.returns-clause-back
returns-clause-back c =
    ap (undone (length c.args.book.now.turn)) c.loop-page.invariant ∙ back_all c.args.version (take c.loop-page.page-index c.args.pages.now) c.args.book.now

pub returns-clause-longer : goal.returns-clause-longer
returns-clause-longer c =
    omega (
      arith,
      ap (λ (b : Book). length b.turn) c.loop-page.invariant,
      all_longer c.args.version (take c.loop-page.page-index c.args.pages.now) c.args.book.now,
    )
