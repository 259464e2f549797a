use Rattle.std.proofs.Common.{take}
use Rattle.std.specs.List.{AllZip}
use Rattle.queries.specs.SortedIds.{IsShortOf}
use Rattle.queries.proofs.sorted_ids.short_documents.Given as goal

abbrev pub invariant-documents : goal.invariant-documents
invariant-documents l = AllZip (IsShortOf l.sort) (take l.document-index l.documents) l.shorts.items
