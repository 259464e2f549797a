use Rattle.std.proofs.Common.{◌<◌, ap, ◌∙◌, arith}
use Rattle.bson.specs.Tree.{scalar, null, item, no_items}
use Rattle.bson.specs.Edits.{items_len}
use Rattle.bson.specs.EditPlaces.{items_len-append}
use Rattle.path.specs.Edits.{put_item}
use Rattle.path.proofs.IndexLemmas.{put_item-padded}
use Rattle.path.proofs.setting.pad.Goals as goal

pub nulls-smaller : goal.nulls-smaller
nulls-smaller c = omega (arith, ap items_len c.in_ok-add_item.ensures, items_len-append c.nulls.array (item (scalar null) no_items))

pub nulls-preserved : goal.nulls-preserved
nulls-preserved c =
    let short : items_len c.nulls.array < c.args.at = omega arith in
    record {
      short = omega (arith, ap items_len c.in_ok-add_item.ensures, items_len-append c.nulls.array (item (scalar null) no_items));
      same = λ u. ap (λ ts. put_item ts c.args.at u) c.in_ok-add_item.ensures ∙ put_item-padded c.nulls.array c.args.at u short ∙ c.nulls.invariant.same u;
    }
