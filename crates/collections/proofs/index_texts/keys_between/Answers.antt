use Rattle.std.proofs.Common.{List, ℕ, subst, ◌∙◌}
use Rattle.std.specs.Option.{option_map}
use Rattle.entries.specs.OtherKeys.{IsEndOf}
use Rattle.collections.proofs.index_texts.keys_between.Goals as goal

pub returns-clause-to : goal.returns-clause-to
returns-clause-to c =
    subst (λ (k : List ℕ). IsEndOf k (option_map (λ v. v.items) c.in_ok-to.to)) (c.deref.ensures.value ∙ c.in_ok-until.ensures) c.in_ok-to.ensures
