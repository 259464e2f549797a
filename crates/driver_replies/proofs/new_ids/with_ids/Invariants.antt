use Rattle.std.proofs.Common.{◌≡◌, ◌≤◌, drop}
use Rattle.bson.specs.Lawful.{items_levels}
use Rattle.bson.specs.Tree.{append_items}
use Rattle.bson.specs.View.{items_of}
use Rattle.driver_replies.specs.NewIds.{with_ids}
use Rattle.driver_replies.proofs.new_ids.with_ids.Given as goal

abbrev pub invariant-documents : goal.invariant-documents
invariant-documents l = record {
  left : append_items l.given (with_ids l.next (items_of (drop l.document-index l.documents))) ≡ with_ids l.fn.ids (items_of l.documents);
  flat : items_levels (items_of (drop l.document-index l.documents)) ≤ 98;
}
