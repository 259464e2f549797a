use Rattle.std.proofs.Common.{◌≡◌, ◌≤◌, drop}
use Rattle.bson.specs.Lawful.{items_levels}
use Rattle.bson.specs.View.{items_of}
use Rattle.driver_replies.specs.Distinct.{with_documents}
use Rattle.driver_replies.proofs.distinct.Distinct.take.Given as goal

abbrev pub invariant-documents : goal.invariant-documents
invariant-documents l = record {
  left : with_documents l.self (items_of (drop l.document-index l.documents)) ≡ with_documents l.initial.self (items_of l.documents);
  flat : items_levels (items_of (drop l.document-index l.documents)) ≤ 98;
}
