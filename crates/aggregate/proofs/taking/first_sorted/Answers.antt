use Rattle.std.proofs.Common.{rules, ◌≡◌, ◌∷◌, List, map}
use Rattle.aggregate_model.specs.Stage.{Stage, sort_stage}
use Rattle.aggregate_model.specs.Taking.{behind_match}
use Rattle.pipelines.specs.View.{stage_of, pipeline_of}
use Rattle.aggregate.proofs.TakingLemmas.{first_are_enough}
use Rattle.aggregate.proofs.taking.first_sorted.Goals as goal

pub returns : goal.returns
returns c =
    let stages = pipeline_of c.args.pipeline.now in
    let e = c.in-Some-Sort-default in
    let behind : List Stage = map stage_of e.behind.now in
    let is : behind_match stages ≡ sort_stage e.sort ∷ behind = search rules in
    first_are_enough c.sorts_in_parts.ensures e.sort behind c.in_ok-most.most c.in_ok-most.ensures stages is
