-- A pipeline is a list of stages (MongoDB manual, "Aggregation Stages").
use Rattle.std.specs.Prelude.{ℕ, List}
use Rattle.filter.specs.Condition.{Conditions}
use Rattle.sort.specs.Sort.{SortField}
use Rattle.aggregate_model.specs.Group.{Grouping}
use Rattle.aggregate_model.specs.Project.{Projecting}

pub data Stage : Type 0 where
  -- the documents that match
  match_stage : Conditions → Stage
  project_stage : Projecting → Stage
  -- for each element of the array at the path
  unwind_stage : List (List ℕ) → Stage
  group_stage : Grouping → Stage
  sort_stage : List SortField → Stage
  skip_stage : ℕ → Stage
  limit_stage : ℕ → Stage
  -- their number, under this name
  count_stage : List ℕ → Stage
