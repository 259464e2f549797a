use Rattle.std.proofs.Common.{ap, ◌∙◌}
use Rattle.std.specs.List.{list_any}
use Rattle.path.specs.Parts.{is_front}
use Rattle.path.proofs.PathSetLemmas.{next_none, next_tells}
use Rattle.path.proofs.path_set.PathSet.goes_on.Goals as goal

pub returns-in-Some : goal.returns-in-Some
returns-in-Some c =
    c.is_front_of.ensures
    ∙ next_tells c.self.inside.paths c.args.path.now c.range.result (c.range.ensures.in_range tt) c.in-Some.next.now c.next.new.self c.in-Some.ensures.steps
    ∙ ap (list_any (is_front c.args.path.now)) c.self.view_is

pub returns-in-None : goal.returns-in-None
returns-in-None c =
    next_none c.self.inside.paths c.args.path.now c.range.result (c.range.ensures.in_range tt) c.in-None.ensures.steps.0
    ∙ ap (list_any (is_front c.args.path.now)) c.self.view_is
