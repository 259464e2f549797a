use Rattle.std.proofs.Common.{◌≡◌, ◌+◌, List, length}
use Rattle.bson.specs.Tree.{Pairs}
use Rattle.collections.specs.Lookups.{AreEach, IsOfDocument}
use Rattle.collections.proofs.FoundLemmas.{AreMade}
use Rattle.collections.proofs.lookups.spelled_of.Given as goal

abbrev pub invariant-entries : goal.invariant-entries
invariant-entries l = record {
  can : goal.iterator-entries.can_next l.entry-iterator;
  finite : goal.iterator-entries.is_finite l.entry-iterator;
  made : (ds : List Pairs) → AreEach IsOfDocument l.fn.entries.items ds → AreMade ds l.documents.items l.entry-iterator.rest.items;
  count : length l.documents.items + length l.entry-iterator.rest.items ≡ length l.fn.entries.items;
}
