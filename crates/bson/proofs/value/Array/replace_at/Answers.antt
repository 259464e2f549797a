use Rattle.std.proofs.Common.{Some, ap, sym, ◌∙◌, arith}
use Rattle.bson.specs.View.{tree}
use Rattle.bson.specs.Lawful.{levels}
use Rattle.bson.specs.Overview.{nested}
use Rattle.bson.specs.declared.value.Value.{Value}
use Rattle.bson.proofs.BuildLaws.{items_within, items_set, item_there}
use Rattle.bson.proofs.NestingLaws.{holds_other}
use Rattle.bson.proofs.value.Array.replace_at.Goals as goal

pub index_mut-requires : goal.index_mut-requires
index_mut-requires c = omega (arith, items_within c.self.inside.items.items c.args.self.now c.args.at c.self.view_is c.requires, c.self.inside.items.ok.0)

pub with_other-requires : goal.with_other-requires
with_other-requires c = (
  omega (arith, ap nested c.take-nesting.ensures, c.self.invariant.0.counted, c.self.invariant.0.lawful.depth),
  c.levels.ensures.most,
  c.levels-new_levels.ensures.most,
)

pub invariant_of-self : goal.invariant_of-self
invariant_of-self c =
    holds_other c.self.inside.nesting c.take-nesting.result c.with_other.result c.self.inside.items.items c.deref.result.now c.args.self.now c.args.at
    c.index_mut.result.now c.replace-old.new.dest c.args.value c.levels.result c.levels-new_levels.result c.self.invariant c.take-nesting.ensures
    c.self.view_is (items_within c.self.inside.items.items c.args.self.now c.args.at c.self.view_is c.requires) c.index_mut.ensures.value
    c.replace-old.ensures.after c.deref.ensures.value c.levels-new_levels.ensures.lawful
    (omega (arith, c.levels-new_levels.ensures.levels, c.if-new_levels-ge-MOST_LEVELS.false))
    (c.levels.ensures.levels ∙ ap (λ (v : Value). levels (tree v)) c.replace-old.ensures.value) c.levels-new_levels.ensures.levels c.with_other.ensures.levels
    c.with_other.ensures.fits

pub returns-clause-ok : goal.returns-clause-ok
returns-clause-ok c = c.count_edit.ensures
    ∙ items_set c.self.inside.items.items c.args.self.now c.args.at c.replace-old.new.dest c.args.value c.self.view_is c.replace-old.ensures.after

pub returns-clause-old : goal.returns-clause-old
returns-clause-old c =
    item_there c.self.inside.items.items c.args.self.now c.args.at c.index_mut.result.now c.self.view_is
    (items_within c.self.inside.items.items c.args.self.now c.args.at c.self.view_is c.requires) c.index_mut.ensures.value
    ∙ ap (λ (v : Value). Some (tree v)) (sym c.replace-old.ensures.value)
