use Rattle.std.proofs.Common.{rules, sym, ap, subst, ◌∙◌}
use Rattle.std.specs.Prelude.{not}
use Rattle.std.proofs.lemmas.Fn.{filter_same}
use Rattle.bson.specs.EditsLaws.{IsArray-filter}
use Rattle.bson.specs.Lawful.{IsArray}
use Rattle.bson.specs.View.{tree, items_of}
use Rattle.filter.specs.Elements.{element_matches}
use Rattle.filter.specs.View.{condition_of}
use Rattle.update_model.specs.Arrays.{items_without}
use Rattle.update.proofs.ArrayLemmas.{items_of-filter}
use Rattle.update.proofs.arrays.items_without.Goals as goal

pub from_items-requires : goal.from_items-requires
from_items-requires c =
    let left = filter_same _ (λ v. not (element_matches (condition_of c.args.condition.now) (tree v))) _
    (λ x b f' k. search rules) _ _ c.retain.ensures.filtered in
    subst (λ vs. IsArray (items_of vs)) (sym left)
    (IsArray-filter (λ v. not (element_matches (condition_of c.args.condition.now) (tree v))) c.into_items-items.result.items
    (subst IsArray (sym c.into_items-items.ensures.items) c.into_items-items.ensures.lawful))

pub returns : goal.returns
returns c =
    let left = filter_same _ (λ v. not (element_matches (condition_of c.args.condition.now) (tree v))) _
    (λ x b f' k. search rules) _ _ c.retain.ensures.filtered in
    c.from_items.ensures
    ∙ ap items_of left
    ∙ items_of-filter (condition_of c.args.condition.now) c.into_items-items.result.items
    ∙ ap (items_without (condition_of c.args.condition.now)) c.into_items-items.ensures.items
