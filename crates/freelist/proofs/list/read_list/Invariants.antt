use Rattle.std.proofs.Common.{◌≡◌}
use Rattle.freelist.specs.ListReading.{unmarked}
use Rattle.freelist.proofs.ReadingLists.{SoFar}
use Rattle.freelist.proofs.list.read_list.Given as goal

abbrev pub invariant-loop-page : goal.invariant-loop-page
invariant-loop-page g l = record {
  reads : g.P.ListPages.reads l.initial.source l.source;
  same : g.P.ListPages.keeps_word l.source
      → g.P.ListPages.keeps_word l.initial.source × (g.P.ListPages.contents l.source ≡ g.P.ListPages.contents l.initial.source);
  clear : g.P.ListPages.clear l.initial.source l.source;
  so : g.P.ListPages.keeps_word l.source
      → SoFar (g.P.ListPages.contents l.initial.source) l.page_count l.first l.page
      l.reading.seen.items l.reading.list.pages.items l.reading.list.named.items;
}

abbrev pub decreases-loop-page : goal.decreases-loop-page
decreases-loop-page g l = unmarked l.reading.seen.items
