use Rattle.std.proofs.Common.{◌≡◌, drop}
use Rattle.aggregate_model.specs.Limits.{first_fault}
use Rattle.aggregate.proofs.limits.first_fault.Given as goal

abbrev pub invariant-documents : goal.invariant-documents
invariant-documents l = first_fault l.limit (drop l.document-index l.documents) ≡ first_fault l.limit l.documents
