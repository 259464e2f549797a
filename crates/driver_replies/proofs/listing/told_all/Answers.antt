use Rattle.std.proofs.Common.{◌∙◌, Some, ap}
use Rattle.bson.specs.Tree.{no_items, append_items}
use Rattle.bson.specs.View.{tree}
use Rattle.bson.specs.declared.value.Value.{Value}
use Rattle.driver_replies.specs.Listing.{name_in, with_told}
use Rattle.driver_replies.proofs.ListingLemmas.{told_step, told_done}
use Rattle.driver_replies.proofs.listing.told_all.Goals as goal

pub entries-preserved : goal.entries-preserved
entries-preserved c =
    told_step c.args.wanted.now _ _ c.args.entries.now c.entries.entry-index c.entry-item.result _ c.entries-test.true
    (c.in_ok-tell.ensures ∙ ap (λ (v : Value). append_items c.entries.told (with_told c.args.wanted.now (name_in (Some (tree v))) no_items)) c.entry-item.is)
    c.entries.invariant

pub returns : goal.returns
returns c = told_done c.args.wanted.now _ _ _ _ c.entries-test.false c.entries.invariant
