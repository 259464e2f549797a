use Rattle.statements.proofs.PlacingLemmas.{IsPlacedFrom}
use Rattle.statements.proofs.statements.place_of.Given as goal

abbrev pub invariant-documents : goal.invariant-documents
invariant-documents l = IsPlacedFrom l.new l.documents l.place
