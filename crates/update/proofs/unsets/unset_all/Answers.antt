use Rattle.std.proofs.Common.{ap, subst, map, ◌∙◌}
use Rattle.outcome.specs.Outcome.{Gives}
use Rattle.path.specs.declared.refusal.Refusal.TheVariants as refusals
use Rattle.update_model.specs.Applying.{apply_edits}
use Rattle.update.specs.View.{edit_of}
use Rattle.update.proofs.UnsetOrderLemmas.{in_any_order}
use Rattle.update.proofs.unsets.unset_all.Goals as goal

pub returns : goal.returns
returns c =
    subst (Gives refusals.OutOfMemory (λ d. d) c.unset_runs.result)
    (ap (λ es. apply_edits (map edit_of es) c.args.document) c.deref.ensures.value
    ∙ in_any_order c.args.edits.now c.in_ok-sorted.sorted.items c.sort_by.new.self.items c.args.document c.requires c.in_ok-sorted.ensures
    c.sort_by.ensures.permutation c.levels-levels.ensures.lawful.lawful) c.unset_runs.ensures
