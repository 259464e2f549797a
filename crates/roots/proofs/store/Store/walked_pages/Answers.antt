use Rattle.std.proofs.Common.{rules}
use Rattle.roots.specs.declared.opening.OpenFault.TheVariants as faults
use Rattle.roots.proofs.BookLemmas.{book_is, finds, none_so, walk_tells, walked_new}
use Rattle.roots.proofs.FreeLemmas.{file_failed}
use Rattle.roots.proofs.store.Store.walked_pages.Goals as goal

pub returns-in_err-in_use-clause-finds : goal.returns-in_err-in_use-clause-finds
returns-in_err-in_use-clause-finds g c =
    finds g.D.Disk.history c.args.limit c.from_residual.result c.args.self.now c.live_pages.new.self c.live_pages.ensures.same
    (none_so c.from_residual.result _ c.in_err-in_use.field-0.0 (search rules))
    (λ k. file_failed _ _ c.from_residual.result c.in_err-in_use.field-0.0 (search rules) (c.in_err-in_use.ensures.finds k))

pub returns-in_err-book-clause-finds : goal.returns-in_err-book-clause-finds
returns-in_err-book-clause-finds g c =
    finds g.D.Disk.history c.args.limit c.from_residual-in_err-book.result c.args.self.now c.live_pages.new.self c.live_pages.ensures.same
    (none_so c.from_residual-in_err-book.result _ faults.Memory (search rules))
    (λ k. file_failed _ _ c.from_residual-in_err-book.result faults.Memory (search rules) (λ is. absurd cc))

pub returns-clause-finds : goal.returns-clause-finds
returns-clause-finds g c =
    let root = c.args.self.now.root in
    let live = c.in_ok-in_use.in_use in
    let is = book_is _ c.args.limit c.greater-limit.result c.live_pages.new.self.root root c.deref.result.now live.items
    c.live_pages.ensures.same.root c.in_ok-book.ensures c.greater-limit.ensures c.deref.ensures.value in
    finds g.D.Disk.history c.args.limit _ c.args.self.now c.live_pages.new.self c.live_pages.ensures.same (walked_new _ live.items c.args.limit root is)
    (λ k. walk_tells _ root c.args.limit _ live _ (c.in_ok-in_use.ensures.finds k) is)
