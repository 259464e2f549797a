use Rattle.std.proofs.Common.{◌≤◌, ◌+◌, ◌-◌, ◌++◌, ◌∷◌, [], ℕ, map, take, drop, sym, ◌∙◌, subst, arith}
use Rattle.std.specs.List.{AllByRecursion}
use Rattle.page.specs.Content.{item_size}
use Rattle.page.specs.Format.{item_bytes}
use Rattle.page.specs.CellView.{item_of}
use Rattle.page.proofs.SplicingLemmas.{each_small, put_kept, put_room, put_sound}
use Rattle.page.proofs.leaves.Leaf.with.Goals as goal

pub bytes_with-requires-clause-item : goal.bytes_with-requires-clause-item
bytes_with-requires-clause-item c =
    put_sound c.self.inside.bytes.items c.self.inside.places.items c.self.invariant c.args.self.now c.self.view_is c.args.at
    (item_of c.args.cell.now) c.requires.sound

pub bytes_with-requires-clause-room : goal.bytes_with-requires-clause-room
bytes_with-requires-clause-room c =
    omega (
      arith,
      c.start-from.ensures,
      put_room c.self.inside.bytes.items c.self.inside.places.items c.self.invariant c.args.self.now c.self.view_is c.args.at
          (item_of c.args.cell.now) c.requires.sound,
    )

pub size-requires : goal.size-requires
size-requires c =
    put_sound c.self.inside.bytes.items c.self.inside.places.items c.self.invariant c.args.self.now c.self.view_is c.args.at
    (item_of c.args.cell.now) c.requires.sound

pub places_with-requires-clause-from : goal.places_with-requires-clause-from
places_with-requires-clause-from c =
    omega (
      arith,
      c.start-from.ensures,
      put_room c.self.inside.bytes.items c.self.inside.places.items c.self.invariant c.args.self.now c.self.view_is c.args.at
          (item_of c.args.cell.now) c.requires.sound,
    )

pub places_with-requires-clause-size : goal.places_with-requires-clause-size
places_with-requires-clause-size c =
    omega (
      arith,
      c.size.ensures,
      (put_sound c.self.inside.bytes.items c.self.inside.places.items c.self.invariant c.args.self.now c.self.view_is c.args.at
          (item_of c.args.cell.now) c.requires.sound).size,
    )

pub places_with-requires-clause-small : goal.places_with-requires-clause-small
places_with-requires-clause-small c =
    subst (AllByRecursion (λ (p : ℕ). p ≤ 4080)) (sym c.deref-2.ensures.value)
    (each_small c.self.inside.bytes.items c.self.inside.places.items c.self.invariant.whole)

pub invariant_of-result : goal.invariant_of-result
invariant_of-result c =
    let from = c.start-from.result in
    let x = item_of c.args.cell.now in
    (put_kept c.self.inside.bytes.items c.self.inside.places.items c.self.invariant c.args.self.now c.self.view_is c.args.at x c.requires.sound from
    c.size.result c.in_ok-bytes.bytes.items c.in_ok-places.places.items c.start-from.ensures c.size.ensures
    (c.in_ok-bytes.ensures
    ∙ (λ i. (take from (c.deref.ensures.value i) ++ item_bytes x) ++ take (4080 - item_size x - from) (drop from (c.deref.ensures.value i))))
    (c.in_ok-places.ensures
    ∙ (λ i. (take c.args.at (c.deref-2.ensures.value i) ++ from ∷ []) ++ map (λ p. p + c.size.result) (drop c.args.at (c.deref-2.ensures.value i))))).0

pub returns : goal.returns
returns c =
    let from = c.start-from.result in
    let x = item_of c.args.cell.now in
    (put_kept c.self.inside.bytes.items c.self.inside.places.items c.self.invariant c.args.self.now c.self.view_is c.args.at x c.requires.sound from
    c.size.result c.in_ok-bytes.bytes.items c.in_ok-places.places.items c.start-from.ensures c.size.ensures
    (c.in_ok-bytes.ensures
    ∙ (λ i. (take from (c.deref.ensures.value i) ++ item_bytes x) ++ take (4080 - item_size x - from) (drop from (c.deref.ensures.value i))))
    (c.in_ok-places.ensures
    ∙ (λ i. (take c.args.at (c.deref-2.ensures.value i) ++ from ∷ []) ++ map (λ p. p + c.size.result) (drop c.args.at (c.deref-2.ensures.value i))))).1
