use Rattle.std.proofs.Common.{ℕ, Option, subst}
use Rattle.freelist.specs.Book.{Takes}
use Rattle.pager.proofs.TakeLemmas.{taken_back}
use Rattle.pager.proofs.taking.take_page.Goals as goal

pub returns-in_default-new-clause-refused : goal.returns-in_default-new-clause-refused
returns-in_default-new-clause-refused c =
    taken_back c.args.book.now c.take.new.self c.undo_to.new.self c.in-Some.page c.mark-mark.result.changes
    (subst (λ (found : Option ℕ). Takes found c.args.book.now c.take.new.self) c.in-Some.is c.in_ok-page.ensures.takes) c.mark-mark.ensures c.undo_to.ensures
