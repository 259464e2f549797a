use Rattle.std.proofs.Common.{List, ap, subst, ◌∙◌, arith}
use Rattle.bson.specs.View.{items_of}
use Rattle.bson.specs.Lawful.{IsArray, items_levels}
use Rattle.bson.specs.EditsLaws.{IsArray-without_item}
use Rattle.bson.specs.Edits.{without_item}
use Rattle.bson.specs.declared.value.Value.{Value}
use Rattle.bson.proofs.BuildLaws.{items_removed_levels, items_within, items_removed, item_there, HoldsArray-edit}
use Rattle.bson.proofs.value.Array.remove_at.Goals as goal

pub remove-value-requires : goal.remove-value-requires
remove-value-requires c = omega (arith, items_within c.self.inside.items.items c.args.self.now c.args.at c.self.view_is c.requires, c.self.inside.items.ok.0)

pub invariant_of-self : goal.invariant_of-self
invariant_of-self c =
    let flat = items_removed_levels c.self.inside.items.items c.remove-value.new.self.items c.deref.result.now c.args.self.now c.args.at c.remove-value.result
    c.levels.result c.levels-2.result c.self.view_is
    (items_within c.self.inside.items.items c.args.self.now c.args.at c.self.view_is c.requires) c.remove-value.ensures.value c.remove-value.ensures.items
    c.deref.ensures.value (c.levels.ensures ∙ c.self.invariant.0.counted) c.levels-2.ensures.levels in (
      HoldsArray-edit (items_of c.remove-value.new.self.items) (without_item c.args.self.now c.args.at) c.deepest_after-levels.result
          (items_removed c.self.inside.items.items c.remove-value.new.self.items c.args.self.now c.args.at c.self.view_is c.remove-value.ensures.items)
          (IsArray-without_item c.args.self.now c.args.at (subst IsArray c.self.view_is c.self.invariant.0.lawful))
          (c.deepest_after-levels.ensures flat ∙ ap (λ (xs : List Value). items_levels (items_of xs)) c.deref.ensures.value),
      tt,
    )

pub returns-clause-item : goal.returns-clause-item
returns-clause-item c =
    item_there c.self.inside.items.items c.args.self.now c.args.at c.remove-value.result c.self.view_is
    (items_within c.self.inside.items.items c.args.self.now c.args.at c.self.view_is c.requires) c.remove-value.ensures.value

pub returns-clause-rest : goal.returns-clause-rest
returns-clause-rest c =
    items_removed c.self.inside.items.items c.remove-value.new.self.items c.args.self.now c.args.at c.self.view_is c.remove-value.ensures.items
