use Rattle.std.proofs.Common.{◌≤◌, ◌+◌, ◌-◌, ◌++◌, ℕ, map, take, drop, replicate, sym, ◌∙◌, subst, arith}
use Rattle.std.specs.List.{AllByRecursion}
use Rattle.page.proofs.SplicingLemmas.{cut_kept, cut_order, cut_room, each_small, place_near}
use Rattle.page.proofs.leaves.Leaf.without.Goals as goal

pub overflow_add-at : goal.overflow_add-at
overflow_add-at c = omega (arith, c.requires.place, place_near c.args.self.now c.args.at c.requires.place c.requires.sound)

pub bytes_without-requires-clause-order : goal.bytes_without-requires-clause-order
bytes_without-requires-clause-order c =
    cut_order c.self.inside.bytes.items c.self.inside.places.items c.self.invariant c.args.self.now c.self.view_is c.args.at c.requires.place _ _
    c.start-from.ensures c.start-to.ensures

pub bytes_without-requires-clause-room : goal.bytes_without-requires-clause-room
bytes_without-requires-clause-room c =
    cut_room c.self.inside.bytes.items c.self.inside.places.items c.self.invariant c.args.self.now c.self.view_is c.args.at c.requires.place _
    c.start-to.ensures

pub overflow_sub-to : goal.overflow_sub-to
overflow_sub-to c =
    cut_order c.self.inside.bytes.items c.self.inside.places.items c.self.invariant c.args.self.now c.self.view_is c.args.at c.requires.place _ _
    c.start-from.ensures c.start-to.ensures

pub places_without-requires-clause-small : goal.places_without-requires-clause-small
places_without-requires-clause-small c =
    subst (AllByRecursion (λ (p : ℕ). p ≤ 4080)) (sym c.deref-2.ensures.value)
    (each_small c.self.inside.bytes.items c.self.inside.places.items c.self.invariant.whole)

pub invariant_of-result : goal.invariant_of-result
invariant_of-result c =
    let from = c.start-from.result in
    let to = c.start-to.result in
    (cut_kept c.self.inside.bytes.items c.self.inside.places.items c.self.invariant c.args.self.now c.self.view_is c.args.at c.requires.place from to
    c.in_ok-bytes.bytes.items c.in_ok-places.places.items c.requires.sound c.start-from.ensures c.start-to.ensures
    (c.in_ok-bytes.ensures ∙ (λ i. take from (c.deref.ensures.value i) ++ drop to (c.deref.ensures.value i) ++ replicate (to - from) 0))
    (c.in_ok-places.ensures
    ∙ (λ i. take c.args.at (c.deref-2.ensures.value i) ++ map (λ p. p - (to - from)) (drop (c.args.at + 1) (c.deref-2.ensures.value i))))).0

pub returns : goal.returns
returns c =
    let from = c.start-from.result in
    let to = c.start-to.result in
    (cut_kept c.self.inside.bytes.items c.self.inside.places.items c.self.invariant c.args.self.now c.self.view_is c.args.at c.requires.place from to
    c.in_ok-bytes.bytes.items c.in_ok-places.places.items c.requires.sound c.start-from.ensures c.start-to.ensures
    (c.in_ok-bytes.ensures ∙ (λ i. take from (c.deref.ensures.value i) ++ drop to (c.deref.ensures.value i) ++ replicate (to - from) 0))
    (c.in_ok-places.ensures
    ∙ (λ i. take c.args.at (c.deref-2.ensures.value i) ++ map (λ p. p - (to - from)) (drop (c.args.at + 1) (c.deref-2.ensures.value i))))).1
