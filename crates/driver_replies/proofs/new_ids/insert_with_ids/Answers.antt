use Rattle.std.proofs.Common.{rules, ◌≡◌, ◌∙◌, Some, ap, false, sym}
use Rattle.bson.specs.View.{tree}
use Rattle.bson.specs.declared.value.Value.{Value}
use Rattle.driver_replies.specs.NewIds.{lack_ids}
use Rattle.driver_replies.proofs.NewIdLemmas.{stays}
use Rattle.driver_replies.proofs.new_ids.insert_with_ids.Goals as goal

pub returns-then-not-lack_ids : goal.returns-then-not-lack_ids
returns-then-not-lack_ids c =
    let none : lack_ids c.in-Some-Array.documents ≡ false = search rules in
    stays c.args.ids c.args.body c.in-Some-Array.documents
    (sym c.in-Some-Array.ensures ∙ ap (λ (v : Value). Some (tree v)) c.in-Some-Array.field-0-is) none
