use Rattle.std.proofs.Common.{ℕ}
use Rattle.freelist.specs.Book.{Book}
use Rattle.freelist.specs.ListWriting.{Counts, IsDraft}
use Rattle.freelist.proofs.TakenPages.{free_count}
use Rattle.freelist.proofs.book.FreePages.take_pages.Given as goal

abbrev pub invariant-loop-self : goal.invariant-loop-self
invariant-loop-self l = record {
  counts : Counts l.draft l.self.states;
  drafts : (page_count : ℕ) (first : Book) → IsDraft page_count l.fn.begun first l.fn.self → IsDraft page_count l.draft first l.self;
}

abbrev pub decreases-loop-self : goal.decreases-loop-self
decreases-loop-self l = free_count l.self.states
