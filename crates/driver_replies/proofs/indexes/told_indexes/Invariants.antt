use Rattle.std.proofs.Common.{◌≡◌, ◌≤◌, drop}
use Rattle.bson.specs.Lawful.{items_levels}
use Rattle.bson.specs.Tree.{append_items}
use Rattle.bson.specs.View.{items_of}
use Rattle.driver_replies.specs.Indexes.{told_indexes}
use Rattle.driver_replies.proofs.indexes.told_indexes.Given as goal

abbrev pub invariant-entries : goal.invariant-entries
invariant-entries l = record {
  left : append_items l.told (told_indexes (items_of (drop l.entry-index l.entries))) ≡ told_indexes (items_of l.entries);
  flat : items_levels (items_of (drop l.entry-index l.entries)) ≤ 98;
}
