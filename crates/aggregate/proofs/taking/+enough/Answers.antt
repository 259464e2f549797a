use Rattle.std.proofs.Common.{rules, ◌≡◌, ◌∷◌, ◌+◌, ◌<◌, List, map}
use Rattle.aggregate_model.specs.Stage.{Stage, skip_stage}
use Rattle.pipelines.specs.View.{stage_of}
use Rattle.aggregate.proofs.TakingLemmas.{skip_enough}
use Rattle.aggregate.proofs.taking.+enough.Goals as goal

pub returns-in_ok-enough-in-Some-Skip-default : goal.returns-in_ok-enough-in-Some-Skip-default
returns-in_ok-enough-in-Some-Skip-default t c =
    let e = c.in-Some-Skip-default in
    let stages : List Stage = map stage_of c.args.stages.now in
    let behind : List Stage = map stage_of e.behind.now in
    let is : stages ≡ skip_stage e.skipped ∷ behind = search rules in
    let most = c.in_ok-enough-in-Some-Skip-default.field-0 in
    skip_enough stages behind e.skipped most c.checked_add.result
    (most + e.skipped < 18446744073709551616) is c.in_ok-enough-in-Some-Skip-default.ensures c.checked_add.ensures
