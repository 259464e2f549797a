use Rattle.std.proofs.Common.{Some, None, sym, ap, subst, ◌∙◌}
use Rattle.std.specs.Option.{option_map}
use Rattle.pipelines.specs.View.{pipeline_of}
use Rattle.queries.specs.Folding.{AsksTaken}
use Rattle.queries.proofs.NeededByOrderLemmas.{asks_taken}
use Rattle.queries.proofs.needed_by_order.asked_by.Goals as goal

pub returns-in-Some : goal.returns-in-Some
returns-in-Some c =
    asks_taken (pipeline_of c.args.pipeline.now) (Some c.in-Some.filter.now) (sym (ap (option_map (λ f. f.now)) c.in-Some.is) ∙ c.leading_match.ensures)

pub returns-in-None : goal.returns-in-None
returns-in-None c =
    let stages = pipeline_of c.args.pipeline.now in
    subst (AsksTaken stages) (sym c.requires) (asks_taken stages None (sym (ap (option_map (λ f. f.now)) c.in-None.is) ∙ c.leading_match.ensures))
