use Rattle.std.proofs.Common.{rules, ◌≡◌, ◌∙◌, sym, ap}
use Rattle.bson.specs.Tree.{no_items, item, append_items}
use Rattle.bson.specs.View.{tree}
use Rattle.bson.specs.declared.value.Value.{Value}
use Rattle.driver_replies.specs.Cursors.{number_of}
use Rattle.driver_replies.specs.Fields.{long}
use Rattle.driver_replies.proofs.IdLemmas.{ids_step, ids_done}
use Rattle.driver_replies.proofs.kills.wide_ids.Goals as goal

pub ids-preserved : goal.ids-preserved
ids-preserved c =
    let made : c.add.new.array ≡ append_items c.ids.wide (item (long c.in-Some.number) no_items) = search rules in
    ids_step _ _ c.args.ids.now c.ids.id-index c.id-item.result _ _ c.ids-test.true
    (ap (λ (v : Value). number_of (tree v)) (sym c.id-item.is) ∙ sym c.in-Some.ensures) made c.ids.invariant

pub returns : goal.returns
returns c = ids_done _ _ _ _ c.ids-test.false c.ids.invariant
