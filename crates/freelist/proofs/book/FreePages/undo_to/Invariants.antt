use Rattle.std.proofs.Common.{◌≡◌, length}
use Rattle.freelist.specs.Book.{undone}
use Rattle.freelist.proofs.book.FreePages.undo_to.Given as goal

abbrev pub invariant-loop-mark : goal.invariant-loop-mark
invariant-loop-mark l = undone l.mark.changes l.self ≡ undone l.mark.changes l.initial.self

abbrev pub decreases-loop-mark : goal.decreases-loop-mark
decreases-loop-mark l = length l.self.turn
