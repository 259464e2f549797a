use Rattle.std.specs.Prelude.{Some, [], ◌∷◌, drop}
use Rattle.value_order.specs.KeyText.{tree_text}
use Rattle.filter.specs.Matches.{along, any_holds}
use Rattle.filter.specs.View.{conditions_of}
use Rattle.index.specs.View.{texts_of}
use Rattle.asked_documents.specs.ById.{ArePut, IsPlain, TellBeside}
use Rattle.candidate_ids.proofs.by_id.put_each.Given as goal

abbrev pub invariant-conditions : goal.invariant-conditions
invariant-conditions l = record {
  put : ArePut (texts_of l.fn.ids.items) (texts_of l.ids.items);
  left : TellBeside IsPlain tree_text (λ t. any_holds (conditions_of l.conditions) (along (Some t ∷ [])))
      (λ t. any_holds (conditions_of (drop l.condition-index l.conditions)) (along (Some t ∷ []))) (texts_of l.ids.items);
}
