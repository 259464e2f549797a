use Rattle.std.proofs.Common.{rules, ◌≡◌, map}
use Rattle.aggregate_model.specs.Taking.{behind_match}
use Rattle.pipelines.specs.View.{stage_of, pipeline_of}
use Rattle.aggregate.proofs.TakingLemmas.{most_taken}
use Rattle.aggregate.proofs.taking.most_needed.Goals as goal

pub returns : goal.returns
returns c =
    let stages = pipeline_of c.args.pipeline.now in
    let behind : map stage_of c.behind_match.result.now ≡ behind_match stages = search rules in
    most_taken stages (map stage_of c.behind_match.result.now) c.enough.result behind c.enough.ensures
