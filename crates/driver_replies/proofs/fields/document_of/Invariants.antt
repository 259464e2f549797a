use Rattle.std.proofs.Common.{drop}
use Rattle.driver_replies.proofs.FieldLemmas.{AreLeft}
use Rattle.driver_replies.proofs.fields.document_of.Given as goal

abbrev pub invariant-fields : goal.invariant-fields
invariant-fields l = AreLeft l.document (drop l.name-index l.fields) l.fields
