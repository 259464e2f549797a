use Rattle.std.proofs.Common.{ap, arith, map}
use Rattle.std.proofs.lemmas.List.{take_all}
use Rattle.page.specs.Content.{item_size, total}
use Rattle.tree_model.specs.EditView.{edit_in}
use Rattle.btree.specs.Few.{edit_room}
use Rattle.tree_model.specs.Keys.{sum_of}
use Rattle.btree.proofs.InPageLemmas.{used_more}
use Rattle.tree_model.proofs.ListLemmas.{long_map}
use Rattle.btree.proofs.in_page.has_room.Goals as goal

pub loop-edit-init : goal.loop-edit-init
loop-edit-init c = record { used = omega (arith, c.size-used.ensures); room = omega (arith, c.size-used.ensures, c.len.ensures.sound.room) }

pub overflow_sub-used : goal.overflow_sub-used
overflow_sub-used c = omega (arith, c.loop-edit.invariant.room)

pub loop-edit-preserved : goal.loop-edit-preserved
loop-edit-preserved c =
    record {
      used = used_more c.args.edits.now c.loop-edit.edit-index _ c.loop-edit-test.true
          (total item_size c.args.leaf.now) c.loop-edit.used c.cell_bytes-more.result c.loop-edit.invariant.used c.cell_bytes-more.ensures;
      room = omega (arith, c.loop-edit.invariant.room, c.if-more-used.false);
    }

pub returns-clause-room : goal.returns-clause-room
returns-clause-room c =
    λ yes. omega (
      arith,
      c.loop-edit.invariant.used,
      c.loop-edit.invariant.room,
      ap (sum_of edit_room)
          (take_all c.loop-edit.edit-index (map edit_in c.args.edits.now) (omega (arith, long_map edit_in c.args.edits.now, c.loop-edit-test.false))),
    )
