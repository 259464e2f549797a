use Rattle.std.proofs.Common.{◌≡◌, drop}
use Rattle.bson.specs.View.{items_of}
use Rattle.driver_replies.specs.NewIds.{lack_ids}
use Rattle.driver_replies.proofs.new_ids.lack_ids.Given as goal

abbrev pub invariant-documents : goal.invariant-documents
invariant-documents l = lack_ids (items_of (drop l.document-index l.documents)) ≡ lack_ids (items_of l.documents)
