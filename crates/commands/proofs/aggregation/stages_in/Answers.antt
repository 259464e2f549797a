use Rattle.std.proofs.Common.{◌≡◌, ◌∷◌, [], List, map, Result, sym, ap, subst, ◌∙◌, refl}
use Rattle.bson.specs.Tree.{Tree}
use Rattle.bson.specs.View.{tree, items_of}
use Rattle.bson.specs.declared.value.Value.{Value}
use Rattle.path.specs.Reach.{items_list}
use Rattle.outcome.specs.Outcome.{Gives}
use Rattle.path.specs.declared.refusal.Refusal.{Refusal}
use Rattle.aggregate_model.specs.Stage.{Stage}
use Rattle.aggregate_model.specs.Pipeline.{read_pipeline}
use Rattle.pipelines.specs.View.{pipeline_of}
use Rattle.command_model.specs.Aggregate.{stages_in}
use Rattle.path.specs.declared.refusal.Refusal.TheVariants as refusals
use Rattle.commands.proofs.aggregation.stages_in.Goals as goal

listed : (vs : List Value) → items_list (items_of vs) ≡ map tree vs
listed [] = refl
listed (v ∷ vs) = ap (λ (ts : List Tree). tree v ∷ ts) (listed vs)

pub returns-in-Array : goal.returns-in-Array
returns-in-Array c =
    let same : map tree c.items.result.now ≡ items_list c.in-Array.array = sym (listed c.items.result.now) ∙ ap items_list c.items.ensures.items in
    let planned : read_pipeline (map tree c.items.result.now) ≡ stages_in (tree c.args.value.now) =
    ap read_pipeline same ∙ ap (λ (v : Value). stages_in (tree v)) (sym c.in-Array.is) in
    subst (λ (r : Result (List Stage) Refusal). Gives refusals.OutOfMemory pipeline_of c.read.result r) planned c.read.ensures
