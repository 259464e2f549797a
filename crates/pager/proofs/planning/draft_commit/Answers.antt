use Rattle.std.proofs.Common.{Option, subst}
use Rattle.freelist.specs.ListWriting.{WritesList}
use Rattle.freelist.specs.declared.list.FreeList.{FreeList}
use Rattle.freelist.proofs.TakenPages.{goes_back}
use Rattle.pager.proofs.BookLemmas.{back_both}
use Rattle.pager.proofs.ListedLemmas.{as_wide}
use Rattle.pager.proofs.planning.draft_commit.Goals as goal

pub returns-in-Err-clause-back : goal.returns-in-Err-clause-back
returns-in-Err-clause-back c =
    let mid = c.retire_both.new.book in
    let last = c.write_list.new.self in
    let pages = c.in-Some.list.pages.items in
    let list =
    subst (λ (found : Option FreeList). WritesList c.max-page_count.result found mid last) c.in-Some.is c.in-Ok-write_list.ensures.list in
    back_both c.args.book.now mid last c.retire_both.ensures.longer (as_wide pages mid last list.takes).longer (goes_back pages mid last list.takes)
    c.retire_both.ensures.back
