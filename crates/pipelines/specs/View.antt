-- What the types of the crate stand for.
use Rattle.std.specs.Prelude.{List, map}
use Rattle.aggregate_model.specs.Stage.{Stage, match_stage, project_stage, unwind_stage}
use Rattle.aggregate_model.specs.Stage.{group_stage, sort_stage, skip_stage, limit_stage}
use Rattle.aggregate_model.specs.Stage.{count_stage}
use Rattle.pipelines.specs.declared.stage.Stage.{Stage as Made}
use Rattle.pipelines.specs.declared.stage.Stage.TheVariants as stages
use Rattle.projection.specs.Seen.{seen_of}
use Rattle.pipelines.specs.GroupView.{grouping_of}
use Rattle.aggregate_model.specs.Project.{Computed, Fields, Projecting}
use Rattle.pipelines.specs.declared.projecting.Computed.{Computed as Added}
use Rattle.pipelines.specs.declared.projecting.Fields.{Fields as Read}
use Rattle.pipelines.specs.declared.projecting.Projecting.{Projecting as Held}
use Rattle.pipelines.specs.declared.pipeline.Pipeline.{Pipeline}

abbrev pub computed_of : Added → Computed
computed_of c = record { name = c.name; source = c.source }

abbrev pub fields_of : Read → Fields
fields_of f = record { seen = seen_of f.seen; computed = map computed_of f.computed.items }

abbrev pub projecting_of : Held → Projecting
projecting_of p = record { taken = p.taken; computed = map computed_of p.computed.items }

abbrev pub stage_of : Made → Stage
stage_of (stages.Match f) = match_stage f
stage_of (stages.Project p) = project_stage (projecting_of p)
stage_of (stages.Unwind path) = unwind_stage path
stage_of (stages.Group g) = group_stage (grouping_of g)
stage_of (stages.Sort s) = sort_stage s
stage_of (stages.Skip n) = skip_stage n
stage_of (stages.Limit n) = limit_stage n
stage_of (stages.Count name) = count_stage name

abbrev pub pipeline_of : Pipeline → List Stage
pipeline_of p = map stage_of p.stages.items
