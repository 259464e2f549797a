-- What a pipeline makes of the documents of a collection.
use Rattle.std.specs.Prelude.{◌≡◌, None, List, Result}
use Rattle.std.specs.Global.{Vec}
use Rattle.bson.specs.Tree.{Pairs}
use Rattle.outcome.specs.Outcome.{Gives}
use Rattle.aggregate_model.specs.Limits.{first_fault}
use Rattle.aggregate_model.specs.Pipeline.{run}
use Rattle.aggregate_model.specs.Stage.{Stage}
use Rattle.path.specs.declared.refusal.Refusal.{Refusal}
use Rattle.path.specs.declared.refusal.Refusal.TheVariants as refusals

-- It was given of documents within the limits, or refused, unless memory ran out.
abbrev pub Pipes : List Stage → Result (Vec Pairs) Refusal → List Pairs → Type 0
Pipes stages given ds = first_fault 65535 ds ≡ None
    → Gives refusals.OutOfMemory (λ v. v.items) given (run stages 65535 ds)
