use Rattle.std.proofs.Common.{Option, subst, sym}
use Rattle.freelist.specs.ListWriting.{FindsRoom, GoesBack}
use Rattle.freelist.specs.declared.draft.Draft.{Draft}
use Rattle.freelist.proofs.TakenPages.{goes_back, on_err, same_book}
use Rattle.freelist.proofs.book.FreePages.draft_more.Goals as goal

pub returns-in_err-named-clause-err : goal.returns-in_err-named-clause-err
returns-in_err-named-clause-err c =
    λ page_count first d. on_err c.from_residual-in_err-named.result
    (subst (GoesBack first first)
    (sym (same_book _ c.take_pages.new.self c.unused_below.new.self c.self.view_is c.unused_below.ensures.same))
    (goes_back c.in-Some.draft.pages.items first c.take_pages.new.self
    (subst (λ (found : Option Draft). FindsRoom page_count found first c.take_pages.new.self) c.in-Some.is
    (c.in_ok-draft.ensures.pages page_count first d)).0.takes))
