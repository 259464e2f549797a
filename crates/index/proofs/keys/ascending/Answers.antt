use Rattle.std.proofs.Common.{ap, subst, sym, ◌∙◌, ℕ, List}
use Rattle.std.proofs.lemmas.List.Filters.{dedup_is}
use Rattle.index.specs.Changes.{IsAscending}
use Rattle.index.specs.View.{texts_of}
use Rattle.index.proofs.SetLemmas.{sorted_set, set_sorted}
use Rattle.index.proofs.keys.ascending.Goals as goal

pub returns-clause-set : goal.returns-clause-set
returns-clause-set c =
    ap texts_of (dedup_is _ _ _ c.dedup.ensures.filtered)
    ∙ sorted_set c.args.keys.items c.sort_unstable.new.self.items c.sort_unstable.ensures.permutation c.sort_unstable.ensures.sorted

pub returns-clause-ascending : goal.returns-clause-ascending
returns-clause-ascending c =
    subst (λ (keys : List (List ℕ)). IsAscending keys) (sym (returns-clause-set c)) (set_sorted (texts_of c.args.keys.items))
