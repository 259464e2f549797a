-- The first documents in the order of a `$sort` are enough, where a pipeline keeps no others.
use Rattle.std.proofs.Common.{◌≡◌, ℕ, List, [], ◌∷◌, take, Option, refl, sym, ap, subst, ◌∙◌, arith}
use Rattle.std.specs.Prelude.{unwrap_or}
use Rattle.std.specs.List.{filter}
use Rattle.bson.specs.Tree.{Pairs}
use Rattle.filter.specs.Condition.{Conditions, no_conditions}
use Rattle.filter.specs.Matches.{matches}
use Rattle.sort.specs.Sort.{SortField, order}
use Rattle.aggregate_model.specs.EnoughLaws.{enough_of_all, filter-passes}
use Rattle.aggregate_model.specs.Stage.{Stage, match_stage}
use Rattle.aggregate_model.specs.Taking.{IsEnough, KeepsFirst, leading_match, takes}
use Rattle.database_model.specs.Aggregate.{AreEnough}
use Rattle.database_model.specs.Find.{matching}
use Rattle.queries.specs.Folding.{AsksTaken}

-- A pipeline takes what its `$match` in front asks for, and all documents where there is none.
taken_by : (s : Stage) (stages : List Stage) → AsksTaken (s ∷ stages) (unwrap_or (leading_match (s ∷ stages)) no_conditions)
taken_by (match_stage rules) stages ds = refl
taken_by other stages ds = refl

pub asks_taken : (stages : List Stage) (o : Option Conditions) → o ≡ leading_match stages → AsksTaken stages (unwrap_or o no_conditions)
asks_taken [] o is ds = ap (λ (o : Option Conditions). filter (matches (unwrap_or o no_conditions)) ds) is
asks_taken (s ∷ stages) o is ds = ap (λ (o : Option Conditions). filter (matches (unwrap_or o no_conditions)) ds) is ∙ taken_by s stages ds

-- all that a pipeline takes are enough
taken_enough : (stages : List Stage) (ds : List Pairs) → IsEnough stages (filter (takes stages) ds) (filter (takes stages) ds)
taken_enough stages ds = record { are_taken = filter-passes (takes stages) ds; no_more = omega arith; same = λ limit rest fault. (fault, refl) }

pub first_needed : (stages : List Stage) (sort : List SortField) (most : ℕ) → KeepsFirst stages sort most
    → (rules : Conditions) (few ds : List Pairs) → AsksTaken stages rules → few ≡ take most (order sort (matching rules ds))
    → AreEnough stages few ds
first_needed stages sort most keeps rules few ds taken is = λ fault.
    let these = filter (takes stages) ds in
    let same : few ≡ take most (order sort these) = is ∙ ap (λ (xs : List Pairs). take most (order sort xs)) (taken ds) in
    enough_of_all stages 65535 few ds (subst (λ (xs : List Pairs). IsEnough stages xs these) (sym same) (keeps these these (taken_enough stages ds))) fault
