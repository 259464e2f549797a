use Rattle.std.proofs.Common.{sym, ap, ◌∙◌}
use Rattle.std.specs.Prelude.{option_map}
use Rattle.bson.specs.Tree.{no_items, append_items}
use Rattle.bson.specs.View.{tree, items_of}
use Rattle.bson.specs.EditPlaces.{append_items-none}
use Rattle.bson.specs.EditsLaws.{items_of-push}
use Rattle.projection.specs.Projection.{add_item}
use Rattle.aggregate.proofs.path_value.add_item.Goals as goal

pub returns-in_ok-push-in-Some : goal.returns-in_ok-push-in-Some
returns-in_ok-push-in-Some c =
    ap items_of c.in_ok-push-in-Some.ensures.items
    ∙ items_of-push c.args.items.now.items c.in-Some.value
    ∙ sym (ap (λ o. append_items (items_of c.args.items.now.items) (add_item (option_map tree o) no_items)) c.in-Some.is)

pub returns-in-None : goal.returns-in-None
returns-in-None c =
    sym (append_items-none (items_of c.args.items.now.items))
    ∙ sym (ap (λ o. append_items (items_of c.args.items.now.items) (add_item (option_map tree o) no_items)) c.in-None.is)
