use Rattle.std.proofs.Common.{◌≡◌, map, sym}
use Rattle.std.proofs.lemmas.Result.{err_from_is_err_and}
use Rattle.btree.specs.Scan.{entry_in}
use Rattle.tree_model.specs.declared.pages.TreeFault.TheVariants as faults
use Rattle.collections.proofs.ReadingLemmas.{looks_never, looks_on, looks_refused, no_next, whole_read}
use Rattle.collections.proofs.lookups.all_below.Goals as goal

pub returns-in_err-batch : goal.returns-in_err-batch
returns-in_err-batch g c =
    let p = err_from_is_err_and c.from_residual.result c.from_residual.ensures.1 in
    rw (p.1, p.2)
    (looks_refused g.D.Disk.history c.args.root _
    (λ entries all. map entry_in all.items ≡ entries) c.args.pager.now c.entries_below.new.pager c.in_err-batch.field-0.0 c.in_err-batch.ensures)

pub returns-then-is_some : goal.returns-then-is_some
returns-then-is_some g c =
    looks_never g.D.Disk.history c.args.root _
    (λ entries all. map entry_in all.items ≡ entries) c.args.pager.now c.entries_below.new.pager c.in_ok-batch.batch faults.Length tt c.in_ok-batch.ensures
    (λ entries right. no_next c.in_ok-batch.batch entries (sym c.if-is_some.ensures) right)

pub returns : goal.returns
returns g c =
    looks_on g.D.Disk.history c.args.root _
    (λ entries all. map entry_in all.items
    ≡ entries) c.args.pager.now c.entries_below.new.pager c.in_ok-batch.batch c.in_ok-batch.batch.entries c.in_ok-batch.ensures
    (λ entries right. whole_read 18446744073709551615 c.in_ok-batch.batch entries (sym c.if-is_some.ensures) right)
