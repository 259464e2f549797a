use Rattle.std.proofs.Common.{◌≡◌, ◌++◌, drop}
use Rattle.std.specs.List.{AllByRecursion}
use Rattle.page.specs.Content.{IsContent}
use Rattle.page.specs.Format.{PageModel}
use Rattle.pager.specs.Order.{pages_at}
use Rattle.pager.specs.Writing.{written_of}
use Rattle.pager.proofs.writing.pages_to_write.Given as goal

-- those so far, and those that are left
abbrev pub invariant-loop-place : goal.invariant-loop-place
invariant-loop-place l =
    (l.written.items ++ written_of l.version l.book (pages_at l.made (drop l.place-index l.places))
    ≡ written_of l.version l.book (pages_at l.made l.places))
    × AllByRecursion (λ (model : PageModel). IsContent model.content) l.written.items
