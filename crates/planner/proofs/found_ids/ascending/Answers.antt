use Rattle.std.proofs.Common.{ap, subst, sym, ◌∙◌, List, Vec, Global, ℕ}
use Rattle.std.proofs.lemmas.List.Filters.{dedup_is}
use Rattle.index.specs.Changes.{IsAscending}
use Rattle.index.specs.KeyTexts.{ascending_set}
use Rattle.index.specs.View.{texts_of}
use Rattle.index.proofs.SetLemmas.{one_list, set_among, set_sorted, sorted_set}
use Rattle.planner.proofs.found_ids.ascending.Goals as goal

-- what ascends is the set of itself
pub returns-then-are_ascending : goal.returns-then-are_ascending
returns-then-are_ascending c =
    let ids = texts_of c.args.ids.items in
    one_list ids (ascending_set ids)
    (subst (λ (vs : List (Vec ℕ Global)). IsAscending (texts_of vs)) c.deref.ensures.value (c.are_ascending.ensures c.if-are_ascending.true))
    (set_sorted ids) (λ q. sym (set_among ids q))

pub returns : goal.returns
returns c =
    ap texts_of (dedup_is _ _ _ c.dedup.ensures.filtered)
    ∙ sorted_set c.args.ids.items c.sort_unstable.new.self.items c.sort_unstable.ensures.permutation c.sort_unstable.ensures.sorted
