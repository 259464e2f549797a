use Rattle.std.proofs.Common.{◌≡◌, ◌++◌, drop}
use Rattle.std.specs.List.{filter}
use Rattle.filter.specs.Matches.{matches}
use Rattle.statements.proofs.deletions.share_matches.Given as goal

abbrev pub invariant-documents : goal.invariant-documents
invariant-documents l =
    l.removed.items ++ filter (matches l.filter) (drop l.document-index l.documents) ≡ l.initial.removed.items ++ filter (matches l.filter) l.documents
