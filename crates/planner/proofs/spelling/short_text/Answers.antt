use Rattle.std.proofs.Common.{◌≤◌, length, List, ℕ, subst}
use Rattle.bson.specs.View.{tree}
use Rattle.entry_model.proofs.ShortKeys.{short_is_key}
use Rattle.planner.proofs.spelling.short_text.Goals as goal

pub returns-in-Ok : goal.returns-in-Ok
returns-in-Ok c = (
  c.in-Ok.ensures.text,
  short_is_key (tree c.args.value.now) c.levels-levels.ensures.lawful
      (subst (λ (text : List ℕ). length text ≤ 500) c.in-Ok.ensures.text c.in-Ok.ensures.short),
)
