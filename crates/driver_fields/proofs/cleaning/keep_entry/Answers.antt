use Rattle.std.proofs.Common.{◌≡◌, ap, arith, ◌∙◌}
use Rattle.bson.specs.Edits.{items_len, with_item}
use Rattle.bson.specs.EditPlaces.{with_item-twice}
use Rattle.bson.specs.Lawful.{levels}
use Rattle.bson.specs.Tree.{scalar, null, Items}
use Rattle.bson.specs.View.{tree}
use Rattle.driver_fields.specs.Cleaning.{kept_entry}
use Rattle.driver_fields.proofs.CleaningLemmas.{entry-levels, items_len-with_item}
use Rattle.driver_fields.proofs.cleaning.keep_entry.Goals as goal

pub put_item-requires-clause-there : goal.put_item-requires-clause-there
put_item-requires-clause-there c =
    omega (arith, ap items_len c.take_item-entry.ensures.after, items_len-with_item c.args.entries.now c.args.at (scalar null), c.requires)

pub put_item-requires-clause-levels : goal.put_item-requires-clause-levels
put_item-requires-clause-levels c =
    omega (arith, ap levels c.kept_entry.ensures, entry-levels c.args.whose (tree c.take_item-entry.result), c.take_item-entry.ensures.levels)

pub returns : goal.returns
returns c = λ t there.
    let same : tree c.take_item-entry.result ≡ t = cc (c.take_item-entry.ensures.value, there) in
    c.put_item.ensures
    ∙ ap (λ (ts : Items). with_item ts c.args.at (tree c.kept_entry.result)) c.take_item-entry.ensures.after
    ∙ with_item-twice c.args.entries.now c.args.at (scalar null) (tree c.kept_entry.result)
    ∙ ap (with_item c.args.entries.now c.args.at) (c.kept_entry.ensures ∙ ap (kept_entry c.args.whose) same)
