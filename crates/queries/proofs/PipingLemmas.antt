-- What a pipeline makes of documents, however they were read.
use Rattle.std.proofs.Common.{◌≡◌, Bool, List, None, Result, Ok, Err, Vec, Global, sym, ap, subst, ◌∙◌}
use Rattle.std.specs.Prelude.{All, IfOk}
use Rattle.std.specs.List.{filter}
use Rattle.bson.specs.Tree.{Pairs}
use Rattle.outcome.specs.Outcome.{Gives}
use Rattle.aggregate_model.specs.EnoughLaws.{All-filter, fault-within, within-fault}
use Rattle.aggregate_model.specs.Limits.{first_fault, limit_fault}
use Rattle.aggregate_model.specs.Pipeline.{run}
use Rattle.aggregate_model.specs.Stage.{Stage}
use Rattle.aggregate_model.specs.Taking.{takes}
use Rattle.aggregate_model.specs.TakingLaws.{only_taken, stays_within}
use Rattle.database_model.specs.Aggregate.{AreEnough}
use Rattle.database_model.specs.Lawful.{IsWithin}
use Rattle.path.specs.declared.refusal.Refusal.{Refusal}
use Rattle.path.specs.declared.refusal.Refusal.TheVariants as refusals
use Rattle.queries.specs.Piping.{Pipes}
use Rattle.queries.proofs.FaultlessLemmas.{faultless_within, none_at_fault}

-- what is given of documents within the limits is within them
pub outcome_within : (stages : List Stage) (ds : List Pairs) (r : Result (Vec Pairs Global) Refusal) → All IsWithin ds → Pipes stages r ds
    → IfOk r (λ v. All IsWithin v.items)
outcome_within stages ds (Ok v) h pipes = faultless_within v.items (stays_within stages 65535 ds v.items (none_at_fault ds h) (pipes (none_at_fault ds h)))
outcome_within stages ds (Err e) h pipes = tt

-- so is what has no fault
pub given_within : (r : Result (Vec Pairs Global) Refusal) → IfOk r (λ v. first_fault 65535 v.items ≡ None) → IfOk r (λ v. All IsWithin v.items)
given_within (Ok v) fine = faultless_within v.items fine
given_within (Err e) fine = tt

module _ (stages : List Stage) (given : Result (Vec Pairs Global) Refusal) (all : List Pairs) where
  -- of documents that are enough the same is made as of all
  pub enough_pipes : (few : List Pairs) → All IsWithin few → AreEnough stages few all → Pipes stages given few → Pipes stages given all
  enough_pipes few within enough pipes = λ fault.
      subst (Gives refusals.OutOfMemory (λ v. v.items) given) (enough fault) (pipes (none_at_fault few within))

  -- and of some of them, where all that it takes are among those
  pub pipes_within : (chosen : Pairs → Bool) → filter (takes stages) (filter chosen all) ≡ filter (takes stages) all
      → Pipes stages given (filter chosen all) → Pipes stages given all
  pipes_within chosen same pipes = λ fault.
      let found = filter chosen all in
      let good : first_fault 65535 found ≡ None =
      within-fault 65535 found (All-filter (λ d. limit_fault 65535 d ≡ None) chosen all (fault-within 65535 all fault)) in
      subst (Gives refusals.OutOfMemory (λ v. v.items) given)
      (sym (only_taken stages 65535 found) ∙ ap (run stages 65535) same ∙ only_taken stages 65535 all) (pipes good)
