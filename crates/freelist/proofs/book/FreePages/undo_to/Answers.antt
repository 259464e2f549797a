use Rattle.std.proofs.Common.{◌≡◌, ◌-◌, ◌∙◌, ap, length, arith}
use Rattle.freelist.specs.Book.{Book, undone}
use Rattle.freelist.proofs.Undoing.{undone-undone}
use Rattle.freelist.proofs.book.FreePages.undo_to.Goals as goal

pub loop-mark-preserved : goal.loop-mark-preserved
loop-mark-preserved c =
    let turn : length c.self.inside.turn.items ≡ length c.loop-mark.self.turn = ap (λ (b : Book). length b.turn) c.self.view_is in
    ap (undone c.args.mark.changes) c.undo_last.ensures
    ∙ undone-undone c.args.mark.changes (length c.loop-mark.self.turn - 1) c.loop-mark.self (omega arith) (omega arith)
    ∙ c.loop-mark.invariant
