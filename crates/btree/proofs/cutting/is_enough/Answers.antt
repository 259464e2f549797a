use Rattle.std.proofs.Common.{[], arith, inl, inr, map}
use Rattle.page.specs.Content.{inline}
use Rattle.btree.specs.Loose.{Slot, value}
use Rattle.btree.specs.LooseView.{slot_in}
use Rattle.btree.proofs.CuttingLemmas.{even_part, little_behind}
use Rattle.tree_model.proofs.ListLemmas.{long_map}
use Rattle.btree.proofs.cutting.is_enough.Goals as goal

none : Slot
none = record { key = []; load = value (inline []) }

pub returns-then-large-at-clause-enough : goal.returns-then-large-at-clause-enough
returns-then-large-at-clause-enough c =
    λ yes small.
    let long = long_map slot_in c.args.loose_slots.now in
    let e = even_part (map slot_in c.args.loose_slots.now) none 2720 c.loose_slots_within-large.result c.args.at c.args.whole (omega arith) (omega arith)
    (omega arith)
    (omega arith) c.requires.room (λ s lt. c.loose_slots_within-large.ensures.next s (omega arith)) small in
    (e.part, inr (c.requires.over, inl (omega (arith, e.over))))

pub returns-clause-enough : goal.returns-clause-enough
returns-clause-enough c =
    λ yes small.
    let long = long_map slot_in c.args.loose_slots.now in
    let e = even_part (map slot_in c.args.loose_slots.now) none 1360 c.loose_slots_within-little.result c.args.at c.args.whole (omega arith) (omega arith)
    (omega arith)
    (omega arith) c.requires.room (λ s lt. c.loose_slots_within-little.ensures.next s (omega arith)) small in
    let all = little_behind c.args.loose_slots.now c.args.whole c.loose_slots_within-behind.result 1360 (omega arith) (omega arith)
    c.loose_slots_within-behind.ensures.room in
    (e.part, inr (c.requires.over, inr (omega (arith, e.over), omega (arith, all, c.requires.room))))
