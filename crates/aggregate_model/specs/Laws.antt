-- What holds of stages and of groups, whatever the documents.
use Rattle.std.specs.Prelude.{◌≡◌, ℕ, Option, Ok, List, [], ◌∷◌, ◌++◌, length, take, drop}
use Rattle.std.specs.List.{sum_by}
use Rattle.bson.specs.Tree.{Tree, Pairs}
use Rattle.outcome.specs.Outcome.{◌>>=◌}
use Rattle.filter.specs.Condition.{Conditions, append_conditions}
use Rattle.aggregate_model.specs.Accumulators.{accumulated}
use Rattle.aggregate_model.specs.declared.accumulators.Accumulator.TheVariants as accumulators
use Rattle.aggregate_model.specs.Group.{Grouping, Identified, groups, grouped}
use Rattle.aggregate_model.specs.Pipeline.{run}
use Rattle.aggregate_model.specs.Stage.{Stage, match_stage, skip_stage, limit_stage}
use Rattle.aggregate_model.specs.Stages.{apply_stage}

-- `$match` and then `$match` keep what one `$match` of all their conditions keeps
abbrev pub MatchesBoth : Type 0
MatchesBoth = (first second : Conditions) (documents : List Pairs)
    → (apply_stage (match_stage first) documents >>= apply_stage (match_stage second))
    ≡ apply_stage (match_stage (append_conditions first second)) documents

-- `$skip` and then `$limit` give the window of these numbers
abbrev pub GivesWindow : Type 0
GivesWindow = (skip limit : ℕ) (documents : List Pairs)
    → (apply_stage (skip_stage skip) documents >>= apply_stage (limit_stage limit))
    ≡ Ok (take limit (drop skip documents))

-- there are no groups of no documents
abbrev pub GroupsNone : Type 0
GroupsNone = (g : Grouping) → grouped g [] ≡ Ok []

-- every document is in one group: their numbers sum up to that of all documents
abbrev pub GroupsAll : Type 0
GroupsAll = (documents : List Identified)
    → sum_by (λ g. length g.1) (groups documents) ≡ length documents

-- one pipeline behind another is the two run one after the other
abbrev pub RunsOneAfterOther : Type 0
RunsOneAfterOther = (first second : List Stage) (limit : ℕ) (documents : List Pairs)
    → run (first ++ second) limit documents ≡ (run first limit documents >>= run second limit)

-- two summands that change places change nothing, so a sum is the same in every order
abbrev pub SumsInAnyOrder : Type 0
SumsInAnyOrder = (before behind : List (Option Tree)) (a b : Option Tree)
    → accumulated accumulators.Sum (before ++ a ∷ b ∷ behind)
    ≡ accumulated accumulators.Sum (before ++ b ∷ a ∷ behind)
