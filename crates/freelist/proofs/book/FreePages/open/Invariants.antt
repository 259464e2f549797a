use Rattle.std.proofs.Common.{◌≡◌, drop}
use Rattle.freelist.specs.Book.{with_used}
use Rattle.freelist.proofs.book.FreePages.open.Given as goal

abbrev pub invariant-pages : goal.invariant-pages
invariant-pages l = with_used (drop l.page-index l.in_use) l.pages ≡ with_used l.in_use l.initial.pages
