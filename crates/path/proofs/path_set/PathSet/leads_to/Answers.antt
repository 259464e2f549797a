use Rattle.std.proofs.Common.{ap, ◌∙◌}
use Rattle.std.specs.List.{list_any}
use Rattle.path.specs.Parts.{is_front}
use Rattle.path.proofs.PathSetLemmas.{last_none, last_tells}
use Rattle.path.proofs.path_set.PathSet.leads_to.Goals as goal

pub returns-in-Some : goal.returns-in-Some
returns-in-Some c =
    c.is_front_of.ensures
    ∙ last_tells c.self.inside.paths c.args.path.now c.range.result c.self.invariant
    (c.range.ensures.in_range tt) c.in-Some.last.now c.next_back.new.self c.in-Some.ensures.steps
    ∙ ap (list_any (λ p. is_front p c.args.path.now)) c.self.view_is

pub returns-in-None : goal.returns-in-None
returns-in-None c =
    last_none c.self.inside.paths c.args.path.now c.range.result c.self.invariant (c.range.ensures.in_range tt) c.in-None.ensures.steps.0
    ∙ ap (list_any (λ p. is_front p c.args.path.now)) c.self.view_is
