use Rattle.std.proofs.Common.{◌∙◌, sym, ap, map, refl}
use Rattle.btree.specs.Loose.{pivot_slot, item_slot, under_key}
use Rattle.tree_model.specs.View.{content_in}
use Rattle.btree.proofs.HeldLemmas.{branch_slots, leaf_slots, taken}
use Rattle.btree.proofs.FewParts.{few_of_branch, few_of_leaf}
use Rattle.btree.proofs.taking_apart.loose_slots_of.Goals as goal

pub returns-in-Leaf-clause-holds : goal.returns-in-Leaf-clause-holds
returns-in-Leaf-clause-holds c =
    λ d body e. taken d c.args.low.now body _ c.loose_slots_of_leaf.result (map item_slot c.in-Leaf.leaf) c.loose_slots_of_leaf.ensures.ok
    c.loose_slots_of_leaf.ensures.err
    (leaf_slots d c.args.low.now body _ _ (sym (ap content_in c.in-Leaf.is) ∙ e) refl)

pub returns-in-Branch-clause-holds : goal.returns-in-Branch-clause-holds
returns-in-Branch-clause-holds c =
    λ d body e. taken d c.args.low.now body _ c.loose_slots_of_branch.result
    (map pivot_slot (under_key c.args.low.now c.in-Branch.branch)) c.loose_slots_of_branch.ensures.ok c.loose_slots_of_branch.ensures.err
    (branch_slots d c.args.low.now body _ _ (sym (ap content_in c.in-Branch.is) ∙ e) refl)

pub returns-in-Leaf-clause-few : goal.returns-in-Leaf-clause-few
returns-in-Leaf-clause-few c =
    λ little. few_of_leaf c.loose_slots_of_leaf.result c.in-Leaf.leaf c.loose_slots_of_leaf.ensures.ok c.loose_slots_of_leaf.ensures.sound

pub returns-in-Branch-clause-few : goal.returns-in-Branch-clause-few
returns-in-Branch-clause-few c =
    λ little. few_of_branch c.loose_slots_of_branch.result c.args.low.now c.in-Branch.branch c.loose_slots_of_branch.ensures.ok
    c.loose_slots_of_branch.ensures.sound little
