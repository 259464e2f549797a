use Rattle.std.proofs.Common.{rules, ◌≡◌, ◌∙◌, Err, Ok, sym}
use Rattle.page.specs.History.{now, reads}
use Rattle.freelist.specs.FreeList.{opened_by}
use Rattle.roots.specs.Image.{model_at}
use Rattle.roots.specs.Listed.{OnlyReads}
use Rattle.roots.specs.ListedLaws.{reads_more}
use Rattle.roots.specs.declared.opening.OpenFault.TheVariants as faults
use Rattle.roots.proofs.BookLemmas.{finds, list_fails, list_tells, list_then, listed_new, none_so, room_of}
use Rattle.roots.proofs.FreeLemmas.{file_failed}
use Rattle.roots.proofs.store.Store.listed_pages.Goals as goal

pub returns-in_err-check_tree_page-clause-finds : goal.returns-in_err-check_tree_page-clause-finds
returns-in_err-check_tree_page-clause-finds g c =
    let e = c.in_err-check_tree_page.field-0.0 in
    finds g.D.Disk.history c.args.limit c.from_residual.result c.args.self.now c.check_tree_page.new.self c.in_err-check_tree_page.ensures.same
    (none_so c.from_residual.result _ e (search rules))
    (λ k. file_failed _ _ c.from_residual.result e (search rules) (c.in_err-check_tree_page.ensures.judged k))

pub returns-in-Err-clause-finds : goal.returns-in-Err-clause-finds
returns-in-Err-clause-finds g c =
    let history = g.D.Disk.history in
    let old = c.args.self.now in
    let mid = c.check_tree_page.new.self in
    let new = c.read_named.new.store in
    let first = c.in_ok-check_tree_page.ensures.same in
    let then = c.in-Err.ensures.reads in
    let models = model_at (reads (now (history old.disk))) old.root in
    finds history c.args.limit (Err c.read_fault.result) old new (reads_more history old mid new first then) tt
    (λ k is. list_fails models old.root c.args.limit c.in-Err.fault
    (list_then history old mid (Err c.in-Err.fault) first (then.disk.extends.kept k) (c.in-Err.ensures.list k)) (sym c.read_fault.ensures ∙ is))

pub returns-in_err-book-clause-finds : goal.returns-in_err-book-clause-finds
returns-in_err-book-clause-finds g c =
    let history = g.D.Disk.history in
    let only = reads_more history c.args.self.now c.check_tree_page.new.self c.read_named.new.store c.in_ok-check_tree_page.ensures.same
    c.in-Ok.ensures.reads in
    finds history c.args.limit c.from_residual-in_err-book.result c.args.self.now c.read_named.new.store only
    (none_so c.from_residual-in_err-book.result _ faults.Memory (search rules))
    (λ k. file_failed _ _ c.from_residual-in_err-book.result faults.Memory (search rules) (λ is. absurd cc))

pub returns-clause-finds : goal.returns-clause-finds
returns-clause-finds g c =
    let history = g.D.Disk.history in
    let old = c.args.self.now in
    let mid = c.check_tree_page.new.self in
    let new = c.read_named.new.store in
    let list = c.in-Ok.list in
    let book = c.in_ok-book.book in
    let first = c.in_ok-check_tree_page.ensures.same in
    let then = c.in-Ok.ensures.reads in
    let only : OnlyReads history old new = reads_more history old mid new first then in
    let models = model_at (reads (now (history old.disk))) old.root in
    let is : book ≡ opened_by list.named.items old.root.pages (room_of c.args.limit old.root) old.root.generation =
    c.in_ok-book.ensures
    ∙ (λ i. opened_by (c.deref.ensures.value i) (only.root i).pages (room_of c.args.limit (only.root i)) (only.root i).generation) in
    finds history c.args.limit (Ok (book, list.pages)) old new only (listed_new book list.named.items c.args.limit old.root is)
    (λ k. list_tells models old.root c.args.limit book list.pages list.named.items c.requires
    (list_then history old mid (Ok list) first (then.disk.extends.kept k) (c.in-Ok.ensures.list k)) is)
