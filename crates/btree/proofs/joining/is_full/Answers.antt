use Rattle.std.proofs.Common.{◌<◌, arith, length, map, rules}
use Rattle.btree.specs.LooseView.{slot_in}
use Rattle.btree.proofs.FewParts.{size_many}
use Rattle.tree_model.proofs.ListLemmas.{long_map}
use Rattle.btree.proofs.joining.is_full.Goals as goal

pub returns-then-len-lt2-clause-few : goal.returns-then-len-lt2-clause-few
returns-then-len-lt2-clause-few c =
    λ no small. let few : length c.args.node.now.loose_slots.items < 2 = search rules in
    omega (arith, size_many (map slot_in c.args.node.now.loose_slots.items) small, long_map slot_in c.args.node.now.loose_slots.items)
