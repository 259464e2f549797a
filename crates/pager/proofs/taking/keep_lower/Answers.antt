use Rattle.std.proofs.Common.{ℕ, rules}
use Rattle.std.specs.Prelude.{nat_lt}
use Rattle.std.proofs.lemmas.Fn.{filter_same}
use Rattle.pager.proofs.taking.keep_lower.Goals as goal

pub returns : goal.returns
returns c = filter_same _ (λ (place : ℕ). nat_lt place c.args.count) _ (λ x b f' k. search rules) _ _ c.retain.ensures.filtered
