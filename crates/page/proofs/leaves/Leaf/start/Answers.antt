use Rattle.std.proofs.Common.{List, length, take, ap, ◌∙◌, arith}
use Rattle.page.specs.Content.{Item, item_size, total}
use Rattle.page.specs.CellView.{item_of}
use Rattle.page.proofs.SplicingLemmas.{end_seen, end_small, last_sound, long, start_is}
use Rattle.page.proofs.leaves.Leaf.start.Goals as goal

pub returns-then-i-len : goal.returns-then-i-len
returns-then-i-len c =
    let bytes = c.self.inside.bytes.items in
    let places = c.self.inside.places.items in
    start_is bytes places c.self.invariant c.args.i c.index.result.now (omega (arith, long bytes places c.self.invariant)) c.index.ensures
    ∙ ap (λ (l : List Item). total item_size (take c.args.i l)) c.self.view_is

pub size-requires : goal.size-requires
size-requires c =
    let bytes = c.self.inside.bytes.items in
    let places = c.self.inside.places.items in
    last_sound bytes places c.self.invariant c.args.self.now c.self.view_is _ (item_of c.cell.result)
    (omega (arith, c.self.invariant.sound.some, long bytes places c.self.invariant, ap (λ (l : List Item). length l) c.self.view_is)) c.cell.ensures

pub overflow_add-result : goal.overflow_add-result
overflow_add-result c =
    let bytes = c.self.inside.bytes.items in
    let places = c.self.inside.places.items in
    let long_is = long bytes places c.self.invariant in
    let seen = ap (λ (l : List Item). length l) c.self.view_is in
    omega (
      arith,
      end_small bytes places c.self.invariant c.args.self.now c.self.view_is _ (item_of c.cell.result)
          (omega (arith, c.self.invariant.sound.some, long_is, seen)) c.cell.ensures
          c.args.i c.index-2.result.now c.size.result (omega (arith, long_is, seen)) c.index-2.ensures c.size.ensures,
    )

pub returns : goal.returns
returns c =
    let bytes = c.self.inside.bytes.items in
    let places = c.self.inside.places.items in
    let long_is = long bytes places c.self.invariant in
    let seen = ap (λ (l : List Item). length l) c.self.view_is in
    end_seen bytes places c.self.invariant c.args.self.now c.self.view_is _ (item_of c.cell.result)
    (omega (arith, c.self.invariant.sound.some, long_is, seen)) c.cell.ensures
    c.args.i c.index-2.result.now c.size.result (omega (arith, long_is, seen)) c.index-2.ensures c.size.ensures
