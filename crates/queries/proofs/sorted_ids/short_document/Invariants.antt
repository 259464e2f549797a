use Rattle.queries.proofs.SortedIdLemmas.{IsShortSoFar}
use Rattle.queries.proofs.sorted_ids.short_document.Given as goal

abbrev pub invariant-fields : goal.invariant-fields
invariant-fields l = IsShortSoFar l.field-items l.field-index l.document l.short
