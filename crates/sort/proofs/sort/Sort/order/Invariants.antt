use Rattle.std.proofs.Common.{◌≡◌, ◌++◌, drop, map}
use Rattle.sort.specs.SortKeys.{arranged}
use Rattle.sort.proofs.TakenOutLemmas.{StandIn, Apart}
use Rattle.sort.proofs.sort.Sort.order.Given as goal

abbrev pub invariant-places : goal.invariant-places
invariant-places l = record {
  taken : l.ordered.items ++ map (λ p. p.0) (drop l.place-index (arranged l.self l.fn.documents.items)) ≡ map (λ p. p.0) (arranged l.self l.fn.documents.items);
  there : StandIn l.documents.items (drop l.place-index (arranged l.self l.fn.documents.items));
  apart : Apart (drop l.place-index (arranged l.self l.fn.documents.items));
}
