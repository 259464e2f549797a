use Rattle.std.proofs.Common.{◌≡◌, drop}
use Rattle.freelist.specs.FreeList.{with_free}
use Rattle.freelist.proofs.book.FreePages.open_listed.Given as goal

abbrev pub invariant-pages : goal.invariant-pages
invariant-pages l = with_free (drop l.page-index l.named) l.pages ≡ with_free l.named l.initial.pages
