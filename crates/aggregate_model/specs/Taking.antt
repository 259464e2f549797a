-- Which documents a pipeline takes at all: a `$match` in front tells, before anything is made of a
-- document. And which of these are enough: where it keeps the first ones, of the documents as they
-- come or in the order of a `$sort`.
use Rattle.std.specs.Prelude.{◌≡◌, ◌≤◌, ℕ, Bool, true, false, Option, Some, None, List, [], ◌∷◌}
use Rattle.std.specs.Prelude.{◌++◌, length, take, Result, Ok}
use Rattle.std.specs.List.{filter, AllByRecursion}
use Rattle.bson.specs.Tree.{Pairs}
use Rattle.filter.specs.Condition.{Conditions}
use Rattle.filter.specs.Matches.{matches}
use Rattle.sort.specs.Sort.{SortField, order}
use Rattle.outcome.specs.Outcome.{◌>>=◌}
use Rattle.path.specs.declared.refusal.Refusal.{Refusal}
use Rattle.aggregate_model.specs.Group.{Grouping, grouped}
use Rattle.aggregate_model.specs.Stage.{Stage, match_stage, group_stage}
use Rattle.aggregate_model.specs.Limits.{first_fault, within_limits}
use Rattle.aggregate_model.specs.Pipeline.{run}

abbrev pub takes_by : Stage → Pairs → Bool
takes_by (match_stage rules) d = matches rules d
takes_by other d = true

abbrev pub takes : List Stage → Pairs → Bool
takes [] d = true
takes (s ∷ stages) d = takes_by s d

-- what a `$match` in front asks, which is all that a pipeline takes a document by
abbrev pub asked_by : Stage → Option Conditions
asked_by (match_stage rules) = Some rules
asked_by other = None

abbrev pub leading_match : List Stage → Option Conditions
leading_match [] = None
leading_match (s ∷ stages) = asked_by s

-- a pipeline makes the same of the documents that it takes as of all of them
abbrev pub OnlyTaken : Type 0
OnlyTaken = (stages : List Stage) (limit : ℕ) (ds : List Pairs)
    → run stages limit (filter (takes stages) ds) ≡ run stages limit ds

-- the stages behind a `$match` in front
abbrev pub behind_if_match : Stage → List Stage → List Stage
behind_if_match (match_stage rules) stages = stages
behind_if_match other stages = other ∷ stages

abbrev pub behind_match : List Stage → List Stage
behind_match [] = []
behind_match (s ∷ stages) = behind_if_match s stages

-- a `$group` stands in front
abbrev pub groups_by : Stage → Bool
groups_by (group_stage g) = true
groups_by other = false

abbrev pub groups_first : List Stage → Bool
groups_first [] = false
groups_first (s ∷ stages) = groups_by s

-- what stages make of the groups of documents
abbrev pub run_behind_groups : Grouping → List Stage → ℕ → List Pairs → Result (List Pairs) Refusal
run_behind_groups g stages limit ds = (grouped g ds >>= within_limits limit) >>= run stages limit

-- Of documents within the limits the first ones up to this number are enough.
abbrev pub FirstAreEnough : List Stage → ℕ → Type 0
FirstAreEnough stages most = (limit : ℕ) (ds : List Pairs) → first_fault limit ds ≡ None
    → run stages limit (take most ds) ≡ run stages limit ds

-- the same of those that the pipeline takes
abbrev pub SufficesTaken : List Stage → ℕ → Type 0
SufficesTaken stages most = (limit : ℕ) (ds : List Pairs) → first_fault limit ds ≡ None
    → run stages limit (take most (filter (takes stages) ds)) ≡ run stages limit ds

-- These few documents are enough of those that the pipeline has taken so far: it takes them, they
-- are no more, and whatever comes behind, it makes the same of them and that as of all.
pub record IsEnough (stages : List Stage) (few taken : List Pairs) : Type 0 where
  pub are_taken : AllByRecursion (λ d. takes stages d ≡ true) few
  pub no_more : length few ≤ length taken
  pub same : (limit : ℕ) (rest : List Pairs) → first_fault limit (taken ++ rest) ≡ None
      → (first_fault limit (few ++ rest) ≡ None)
      × (run stages limit (few ++ rest) ≡ run stages limit (taken ++ rest))

-- Of those that are enough, the first ones in this order, up to this number, are enough too.
abbrev pub KeepsFirst : List Stage → List SortField → ℕ → Type 0
KeepsFirst stages sort most = (few taken : List Pairs) → IsEnough stages few taken
    → IsEnough stages (take most (order sort few)) taken

-- what a pipeline makes of documents within the limits is within them
abbrev pub StaysWithin : Type 0
StaysWithin = (stages : List Stage) (limit : ℕ) (ds es : List Pairs) → first_fault limit ds ≡ None
    → run stages limit ds ≡ Ok es → first_fault limit es ≡ None
