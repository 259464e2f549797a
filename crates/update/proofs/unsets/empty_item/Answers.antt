use Rattle.std.proofs.Common.{◌≡◌, ◌≤◌, Some, [], min, sym, ◌∙◌, arith}
use Rattle.std.specs.Prelude.{option_map}
use Rattle.bson.specs.Edits.{items_len}
use Rattle.path.specs.Edits.{cut_off}
use Rattle.path.specs.Parts.{index_of}
use Rattle.path.proofs.IndexLemmas.{cut_item-past}
use Rattle.update.proofs.unsets.empty_item.Goals as goal

pub returns-then-len-at : goal.returns-then-len-at
returns-then-len-at c =
    let e : option_map (min 18446744073709551615) (index_of c.args.part.now) ≡ Some c.in-Some.at = sym c.index.ensures ∙ c.in-Some.is in
    let room : items_len c.args.array.now ≤ 18446744073709551615 = omega arith in
    let beyond : items_len c.args.array.now ≤ c.in-Some.at = omega arith in
    sym (cut_item-past (cut_off []) c.args.array.now 18446744073709551615 c.in-Some.at (index_of c.args.part.now) e room beyond)
