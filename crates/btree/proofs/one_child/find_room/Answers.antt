use Rattle.std.proofs.Common.{[], ◌≡◌, ◌-◌, ap, arith, length, map, sym, take}
use Rattle.page.proofs.ExchangeLemmas.{pivots_take}
use Rattle.btree.specs.Loose.{Slot, child, slots_size}
use Rattle.btree.specs.LooseView.{slot_in}
use Rattle.btree.proofs.BetweenLemmas.{room_sound}
use Rattle.btree.proofs.CuttingLemmas.{take_over}
use Rattle.tree_model.proofs.ListLemmas.{long_map}
use Rattle.btree.proofs.OneChildLemmas.{nothing}
use Rattle.btree.proofs.one_child.find_room.Goals as goal

none : Slot
none = record { key = []; load = child 0 }

pub overflow_sub-behind : goal.overflow_sub-behind
overflow_sub-behind c = omega (arith, c.size.ensures, c.start.ensures, pivots_take c.args.to c.args.branch.now)

pub overflow_add-others : goal.overflow_add-others
overflow_add-others c =
    omega (
      arith,
      c.size.ensures,
      c.start.ensures,
      c.start-2.ensures,
      pivots_take c.args.to c.args.branch.now,
      pivots_take c.args.from c.args.branch.now,
      c.requires.sound.room,
    )

pub overflow_add-beside : goal.overflow_add-beside
overflow_add-beside c =
    omega (
      arith,
      c.size.ensures,
      c.start.ensures,
      c.start-2.ensures,
      pivots_take c.args.from c.args.branch.now,
      c.requires.sound.room,
    )

pub overflow_add-beside-2 : goal.overflow_add-beside-2
overflow_add-beside-2 c =
    omega (
      arith,
      c.size.ensures,
      c.start.ensures,
      c.start-2.ensures,
      pivots_take c.args.from c.args.branch.now,
      c.requires.sound.room,
    )

pub returns : goal.returns
returns c =
    λ new e is.
    let loose_slots = c.args.loose_slots.now in
    let ss = map slot_in loose_slots in
    let all : take c.loose_slots_within.result ss ≡ ss = take_over c.loose_slots_within.result ss (omega (arith, long_map slot_in loose_slots)) in
    room_sound c.args.from c.args.to c.args.branch.now new ss (length loose_slots) c.start-2.result c.start.result c.size.result
    none nothing c.requires.sound c.requires.some c.requires.order c.requires.within e (sym (long_map slot_in loose_slots)) (c.go_into_page.ensures.no is)
    (c.are_between.ensures.some c.if-not-are_between.false) (c.are_between.ensures.first none nothing c.if-not-are_between.false)
    (c.are_between.ensures.last none nothing c.if-not-are_between.false) c.start-2.ensures c.start.ensures c.size.ensures
    (omega (arith, ap slots_size all, c.loose_slots_within.ensures.room))
