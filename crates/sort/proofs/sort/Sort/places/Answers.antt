use Rattle.std.proofs.Common.{map, ap, ◌∙◌}
use Rattle.std.proofs.lemmas.List.{take_all}
use Rattle.sort.specs.declared.sorting.Ranked.{Ranked}
use Rattle.sort.proofs.SortLemmas.{places_in_order}
use Rattle.sort.proofs.sort.Sort.places.Goals as goal

pub returns : goal.returns
returns c = λ documents ranked.
    c.all.invariant
    ∙ ap (map (λ (r : Ranked). r.place)) (take_all c.all.ranked-index c.deref-ranked-items.result.now c.all-test.false ∙ c.deref-ranked-items.ensures.value)
    ∙ places_in_order c.args.self.now c.args.ranked.items c.sort_ranked.new.all.items documents ranked c.in_ok-sort_ranked.ensures
