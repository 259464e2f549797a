use Rattle.std.proofs.Common.{◌≡◌, List, length, take}
use Rattle.bson.specs.Tree.{Pairs}
use Rattle.collections.specs.Lookups.{AreEach, IsOfDocument}
use Rattle.collections.proofs.lookups.documents_of.Given as goal

abbrev pub invariant-loop-entry : goal.invariant-loop-entry
invariant-loop-entry l = record {
  each : (ds : List Pairs) → AreEach IsOfDocument l.entries ds → AreEach (λ x d. x ≡ d) l.documents.items (take l.entry-index ds);
  count : length l.documents.items ≡ l.entry-index;
}
