use Rattle.std.proofs.Common.{◌≡◌, max, List, sym, ap, subst, ◌∙◌, arith}
use Rattle.bson.specs.Tree.{append_items, item, no_items}
use Rattle.bson.specs.View.{tree, items_of}
use Rattle.bson.specs.Lawful.{levels, HoldsArray}
use Rattle.bson.specs.Overview.{nested}
use Rattle.bson.specs.declared.value.Value.{Value}
use Rattle.bson.specs.EditsLaws.{items_of-push}
use Rattle.bson.proofs.BuildLaws.{HoldsArray-push}
use Rattle.bson.proofs.NestingLaws.{fits_one_more}
use Rattle.bson.proofs.value.Array.push.Goals as goal

pub invariant_of-self-2 : goal.invariant_of-self-2
invariant_of-self-2 c =
    let deeper : nested c.with_one.result ≡ max (nested c.self.inside.nesting) (levels (tree c.args.value)) =
    omega (arith, c.with_one.ensures.levels, ap nested c.take-nesting.ensures, c.levels-levels.ensures.levels) in
    let next = HoldsArray-push c.self.inside.items.items c.args.value (nested c.self.inside.nesting) (nested c.with_one.result) c.self.invariant.0
    c.levels-levels.ensures.lawful (omega (arith, c.levels-levels.ensures.levels, c.if-levels-ge-MOST_LEVELS.false)) deeper in (
      subst (λ (vs : List Value). HoldsArray (nested c.with_one.result) (items_of vs)) (sym c.in_ok-push.ensures.items) next,
      fits_one_more c.self.inside.nesting c.take-nesting.result c.with_one.result c.self.inside.items.items c.push.new.self.items c.args.value
          c.levels-levels.result c.self.invariant.1 c.take-nesting.ensures c.in_ok-push.ensures.items
          (omega (arith, c.self.inside.items.ok.0, c.self.inside.items.ok.1, c.self.inside.items.small)) c.levels-levels.ensures.levels
          c.with_one.ensures.fits,
    )

pub returns-clause-ok : goal.returns-clause-ok
returns-clause-ok c = ap items_of c.in_ok-push.ensures.items ∙ items_of-push c.self.inside.items.items c.args.value
    ∙ ap (λ ts. append_items ts (item (tree c.args.value) no_items)) c.self.view_is
