use Rattle.std.proofs.Common.{ap, arith}
use Rattle.page.specs.declared.cells.Cell.{Cell}
use Rattle.page.specs.Content.{item_size, total}
use Rattle.tree_model.specs.View.{item_in}
use Rattle.btree.proofs.EditLemmas.{item_small}
use Rattle.btree.proofs.InPageLemmas.{put_leaf, put_total}
use Rattle.btree.proofs.in_page.put_cell.Goals as goal

pub with-requires-clause-sound : goal.with-requires-clause-sound
with-requires-clause-sound g c =
    let cell : Cell = record { key = c.args.key; stored = c.in_ok-stored.stored } in
    put_leaf c.args.leaf.now c.requires.sound (item_in cell) c.args.at c.requires.gap (item_small cell c.requires.key c.in_ok-stored.ensures.small)
    (omega (arith, c.requires.room, c.in_ok-stored.ensures.size))

pub returns-clause-size : goal.returns-clause-size
returns-clause-size g c =
    let cell : Cell = record { key = c.args.key; stored = c.in_ok-stored.stored } in
    omega (
      arith,
      ap (total item_size) c.in_ok-made.ensures,
      put_total c.args.leaf.now c.requires.sound (item_in cell) c.args.at c.requires.gap,
      c.in_ok-stored.ensures.size,
    )
