use Rattle.std.proofs.Common.{None, ◌∙◌, sym, ap, subst, arith, map, length}
use Rattle.page.specs.Content.{IsLeaf, leaf}
use Rattle.btree.specs.Loose.{GoBehind, item_slot}
use Rattle.btree.specs.LooseView.{slot_in}
use Rattle.tree_model.specs.View.{item_in}
use Rattle.tree_model.proofs.ListLemmas.{long_map}
use Rattle.btree.proofs.PartLemmas.{leaf_whole, same_items}
use Rattle.btree.proofs.parts.leaf_of.Goals as goal

pub of-requires : goal.of-requires
of-requires c =
    subst (λ cs. IsLeaf (map item_in cs)) (sym c.deref.ensures.value)
    (leaf_whole (map item_in c.in_ok-cells.cells.items) (subst (GoBehind None 0) (sym c.in_ok-cells.ensures.ok) c.requires.room)
    (omega (
      arith,
      c.requires.some,
      ap length c.in_ok-cells.ensures.ok,
      long_map slot_in c.args.loose_slots.now,
      long_map item_slot (map item_in c.in_ok-cells.cells.items),
    )))

pub returns-clause-holds : goal.returns-clause-holds
returns-clause-holds c =
    λ items e. ap leaf (c.in_ok-leaf.ensures ∙ ap (map item_in) c.deref.ensures.value ∙ same_items _ items (c.in_ok-cells.ensures.ok ∙ e))
