use Rattle.std.proofs.Common.{ap, ◌∙◌, ◌+◌, ◌^◌, ◌-◌}
use Rattle.std.specs.Prelude.{min}
use Rattle.roots.proofs.MadeLemmas.{end_saturated}
use Rattle.roots.proofs.store.end_of.Goals as goal

pub returns-in-Some : goal.returns-in-Some
returns-in-Some c =
    end_saturated c.args.made.now c.in-Some.last.now c.saturating_add.result c.in-Some.ensures.value
    (c.saturating_add.ensures ∙ ap (λ s. min (s.page + 1) (2 ^ 32 - 1)) c.image.ensures)
