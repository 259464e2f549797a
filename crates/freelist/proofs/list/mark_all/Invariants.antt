use Rattle.std.proofs.Common.{◌≡◌, ◌+◌, ◌≤◌, ℕ, take}
use Rattle.freelist.specs.FreeList.{times_in}
use Rattle.freelist.specs.ListReading.{free_in, unmarked}
use Rattle.freelist.proofs.list.mark_all.Given as goal

abbrev pub invariant-pages : goal.invariant-pages
invariant-pages l = record {
  marks : (n : ℕ) → times_in n (take l.page-index l.pages) + free_in l.seen n ≡ free_in l.initial.seen n;
  fewer : unmarked l.seen ≤ unmarked l.initial.seen;
}
