-- A pipeline that groups its documents before all else but a `$match`, and is given them one after
-- the other.
use Rattle.std.specs.Prelude.{◌≡◌, ℕ, Option, Some, None, Result, Err, List, ◌∷◌, ◌++◌, map}
use Rattle.std.specs.List.{filter}
use Rattle.bson.specs.Tree.{Pairs}
use Rattle.outcome.specs.Outcome.{◌>>=◌}
use Rattle.path.specs.declared.refusal.Refusal.{Refusal}
use Rattle.aggregate_model.specs.Group.{Grouping, grouped}
use Rattle.pipelines.specs.GroupView.{grouping_of}
use Rattle.aggregate.specs.Groups.{entries_of, IsIndexed}
use Rattle.aggregate_model.specs.Stage.{Stage, group_stage}
use Rattle.aggregate_model.specs.Limits.{within_limits}
use Rattle.aggregate_model.specs.Pipeline.{run}
use Rattle.aggregate.specs.Table.{Entry, entry_documents, grouped_from}
use Rattle.aggregate_model.specs.Taking.{takes, behind_match}
use Rattle.pipelines.specs.View.{stage_of, pipeline_of}
use Rattle.aggregate.specs.declared.gathering.Gathering.{Gathering}

-- the first document without an `_id` decides
abbrev pub unless_refused : Option Refusal → Result (List Pairs) Refusal
    → Result (List Pairs) Refusal
unless_refused None given = given
unless_refused (Some e) given = Err e

-- the groups as they are, and then these documents
abbrev pub with_more : Gathering → List Pairs → Result (List Pairs) Refusal
with_more g documents = unless_refused g.refused
    (grouped_from (grouping_of g.grouping.now) documents (entries_of g.groups))

-- The stages were given all these documents so far: whatever comes behind them, the groups are
-- those of all that the stages take.
pub record HasGathered (stages : List Stage) (all : List Pairs) (g : Gathering) : Type 0 where
  pub pipeline : pipeline_of g.pipeline.now ≡ stages
  pub first : behind_match stages
      ≡ group_stage (grouping_of g.grouping.now) ∷ map stage_of g.behind.now
  pub indexed : IsIndexed g.groups
  pub gathered : (more : List Pairs) → with_more g (filter (takes stages) more)
      ≡ grouped (grouping_of g.grouping.now) (filter (takes stages) (all ++ more))

-- in the end: what stages make of the documents of groups
abbrev pub after_groups : Grouping → List Entry → List Stage → ℕ → Result (List Pairs) Refusal
after_groups g entries stages limit =
    (entry_documents g.fields entries >>= within_limits limit) >>= run stages limit
