-- What documents that are lent make of a query.
use Rattle.std.specs.Prelude.{◌≡◌, ℕ, ◌+◌, ◌-◌, ◌^◌, min, true, false, List, [], ◌++◌, All}
use Rattle.std.specs.Prelude.{length, take}
use Rattle.std.specs.List.{filter}
use Rattle.bson.specs.Tree.{Pairs}
use Rattle.filter.specs.Condition.{Conditions}
use Rattle.filter.specs.Matches.{matches}
use Rattle.sort.specs.Sort.{SortField, order}
use Rattle.aggregate.specs.Gathering.{HasGathered}
use Rattle.aggregate_model.specs.Stage.{Stage}
use Rattle.aggregate_model.specs.Taking.{IsEnough, SufficesTaken, takes}
use Rattle.pipelines.specs.View.{pipeline_of}
use Rattle.database_model.specs.Find.{matching}
use Rattle.database_model.specs.Lawful.{IsWithin}
use Rattle.queries.specs.declared.counting.Counting.{Counting}
use Rattle.queries.specs.declared.needed.Needing.{Needing}
use Rattle.queries.specs.declared.ordering.Sorting.{Sorting}
use Rattle.queries.specs.declared.piping.Grouping.{Grouping}

-- So many of them that the filter matches were counted, as far as a number goes.
pub record Counts (start : Counting) (documents : List Pairs) (now : Counting) : Type 0 where
  pub filter : now.filter.now ≡ start.filter.now
  pub count : let more = length (matching start.filter.now documents) in
      now.count ≡ min (start.count + more) (2 ^ 64 - 1)

-- ---- in the order of a sort

-- These few tell the first ones in the order as all of these do, whatever comes behind.
abbrev pub TellFirst : List SortField → ℕ → List Pairs → List Pairs → Type 0
TellFirst sort most few all = (others : List Pairs)
    → take most (order sort (few ++ others)) ≡ take most (order sort (all ++ others))

-- Those that were kept tell the first ones of all that the filter matches.
pub record Sorts (start : Sorting) (documents : List Pairs) (now : Sorting) : Type 0 where
  pub filter : now.filter.now ≡ start.filter.now
  pub sort : now.sort.now ≡ start.sort.now
  pub most : now.most ≡ start.most
  pub first : TellFirst start.sort.now start.most now.found.items
      (start.found.items ++ matching start.filter.now documents)
  pub within : All IsWithin start.found.items → All IsWithin now.found.items

-- ---- for a pipeline

-- The filter matches the documents that a pipeline takes, and no others.
abbrev pub AsksTaken : List Stage → Conditions → Type 0
AsksTaken stages rs = (ds : List Pairs) → filter (matches rs) ds ≡ filter (takes stages) ds

-- Those that were kept are enough of those that the pipeline takes, of all documents, or of the
-- first ones where no others are needed.
pub record Needs (start : Needing) (documents : List Pairs) (now : Needing) : Type 0 where
  pub pipeline : now.pipeline.now ≡ start.pipeline.now
  pub front : List Pairs
  pub left : List Pairs
  pub split : documents ≡ front ++ left
  pub enough : let stages = pipeline_of start.pipeline.now in
      (seen : List Pairs) → IsEnough stages start.needed.items seen
      → IsEnough stages now.needed.items (seen ++ filter (takes stages) front)
  pub within : All IsWithin (filter (takes (pipeline_of start.pipeline.now)) front)
  pub all : now.is_enough ≡ false → left ≡ []
  pub most : now.is_enough ≡ true
      → SufficesTaken (pipeline_of start.pipeline.now) (length now.needed.items)

-- These were gathered behind whatever was gathered before.
abbrev pub Gathers : Grouping → List Pairs → Grouping → Type 0
Gathers start documents now = (stages : List Stage) (before : List Pairs)
    → HasGathered stages before start.gathering
    → HasGathered stages (before ++ documents) now.gathering
