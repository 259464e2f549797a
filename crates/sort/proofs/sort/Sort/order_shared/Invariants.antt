use Rattle.std.proofs.Common.{◌≡◌, ◌++◌, drop, map}
use Rattle.sort.specs.SortKeys.{arranged}
use Rattle.sort.proofs.TakenOutLemmas.{StandIn}
use Rattle.sort.proofs.sort.Sort.order_shared.Given as goal

abbrev pub invariant-places : goal.invariant-places
invariant-places g l = record {
  taken : map (λ d. g.T.AsDocument.document d.now) l.ordered.items
      ++ map (λ p. p.0) (drop l.place-index (arranged l.self (map (λ d. g.T.AsDocument.document d.now) l.fn.documents.items)))
      ≡ map (λ p. p.0) (arranged l.self (map (λ d. g.T.AsDocument.document d.now) l.fn.documents.items));
  there : StandIn (map (λ d. g.T.AsDocument.document d.now) l.fn.documents.items)
      (drop l.place-index (arranged l.self (map (λ d. g.T.AsDocument.document d.now) l.fn.documents.items)));
}
