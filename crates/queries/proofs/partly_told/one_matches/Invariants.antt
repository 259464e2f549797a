use Rattle.std.proofs.Common.{◌≡◌, drop, map}
use Rattle.asked_documents.specs.ById.{one_matches}
use Rattle.queries.proofs.partly_told.one_matches.Given as goal

abbrev pub invariant-filters : goal.invariant-filters
invariant-filters l =
    one_matches (map (λ f. f.now) (drop l.filter-index l.filters)) l.document ≡ one_matches (map (λ f. f.now) l.filters) l.document
