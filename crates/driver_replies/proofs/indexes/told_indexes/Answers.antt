use Rattle.std.proofs.Common.{◌∙◌, ap}
use Rattle.bson.specs.Tree.{item, no_items, append_items}
use Rattle.bson.specs.View.{tree}
use Rattle.bson.specs.declared.value.Value.{Value}
use Rattle.driver_replies.specs.Indexes.{told_entry}
use Rattle.driver_replies.proofs.IndexLemmas.{told_one, told_all_of, entry_flat}
use Rattle.driver_replies.proofs.indexes.told_indexes.Goals as goal

pub entries-preserved : goal.entries-preserved
entries-preserved c = record {
  left =
      told_one c.entries.told c.tell.new.told _ c.args.entries.now c.entries.entry-index c.entry-item.result c.entries-test.true
      (c.in_ok-tell.ensures ∙ ap (λ (v : Value). append_items c.entries.told (item (told_entry (tree v)) no_items)) c.entry-item.is) c.entries.invariant.left;
  flat = (entry_flat c.args.entries.now c.entries.entry-index c.entry-item.result c.entries-test.true c.entries.invariant.flat).1;
}

pub returns : goal.returns
returns c = told_all_of c.entries.told _ c.args.entries.now c.entries.entry-index c.entries-test.false c.entries.invariant.left
