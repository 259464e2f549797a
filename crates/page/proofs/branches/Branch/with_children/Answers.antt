use Rattle.std.proofs.Common.{◌≡◌, ◌≤◌, ◌+◌, ◌-◌, ◌++◌, [], ℕ, List, length, map, take, drop, sym, ap, ◌∙◌, subst, arith, vec_len, length-append}
use Rattle.std.specs.List.{AllByRecursion, flat_map}
use Rattle.std.proofs.lemmas.List.{length-take-le}
use Rattle.page.specs.Content.{pivot_size}
use Rattle.page.specs.Format.{pivot_bytes}
use Rattle.page.specs.CellView.{pivot_of}
use Rattle.page.proofs.CellLemmas.{length-pivot}
use Rattle.page.proofs.ExchangeLemmas.{pivots_take, drop_places, each_place, made_there, new_room, new_sound, now_sound, start_small}
use Rattle.page.proofs.PlaceLemmas.{length-joined}
use Rattle.page.proofs.ReadLemmas.{slice_same}
use Rattle.page.proofs.branches.Branch.with_children.Goals as goal

pub slice_bounds-extend_from_slice-end : goal.slice_bounds-extend_from_slice-end
slice_bounds-extend_from_slice-end c =
    sym (length-take-le c.start.result c.deref.result.now (omega (
      arith,
      start_small c.self.inside.bytes.items c.self.inside.places.items c.args.self.now c.self.invariant c.self.view_is c.args.from c.start.result
          c.start.ensures,
      ap (λ (l : List ℕ). length l) c.deref.ensures.value,
    )))

pub append_children-requires-clause-each : goal.append_children-requires-clause-each
append_children-requires-clause-each c = new_sound c.args.from c.args.to (map pivot_of c.args.children.now) c.args.self.now c.requires.sound

front_long : (bytes none front : List ℕ) (start : ℕ) → front ≡ none ++ take start bytes → none ≡ [] → start ≤ length bytes → length front ≡ start
front_long bytes none front start is none_is le =
    ap (λ (l : List ℕ). length l) (is ∙ ap (λ (l : List ℕ). l ++ take start bytes) none_is) ∙ length-take-le start bytes le

pub append_children-requires-clause-room : goal.append_children-requires-clause-room
append_children-requires-clause-room c =
    let bytes = c.self.inside.bytes.items in
    let places = c.self.inside.places.items in
    omega (
      arith,
      front_long c.deref.result.now c.in_ok-bytes.bytes.items c.extend_from_slice.new.self.items c.start.result c.in_ok-extend_from_slice.ensures.items
          c.in_ok-bytes.ensures.items (omega (
            arith,
            start_small bytes places c.args.self.now c.self.invariant c.self.view_is c.args.from c.start.result c.start.ensures,
            ap (λ (l : List ℕ). length l) c.deref.ensures.value,
          )),
      c.start.ensures,
      new_room c.args.from c.args.to (map pivot_of c.args.children.now) c.args.self.now c.requires.some
          (now_sound bytes places c.args.self.now c.self.invariant c.self.view_is).some c.requires.sound,
    )

pub append_places-requires-clause-to : goal.append_places-requires-clause-to
append_places-requires-clause-to c =
    let bytes = c.self.inside.bytes.items in
    let places = c.self.inside.places.items in
    let new = map pivot_of c.args.children.now in
    omega (
      arith,
      c.len-2.ensures,
      c.append_children.new.bytes.ok,
      ap (λ (l : List ℕ). length l) c.in_ok-append_children.ensures.bytes,
      length-append c.extend_from_slice.new.self.items (flat_map pivot_bytes new),
      length-joined pivot_bytes pivot_size length-pivot new,
      front_long c.deref.result.now c.in_ok-bytes.bytes.items c.extend_from_slice.new.self.items c.start.result c.in_ok-extend_from_slice.ensures.items
          c.in_ok-bytes.ensures.items (omega (
            arith,
            start_small bytes places c.args.self.now c.self.invariant c.self.view_is c.args.from c.start.result c.start.ensures,
            ap (λ (l : List ℕ). length l) c.deref.ensures.value,
          )),
      c.start.ensures,
      new_room c.args.from c.args.to new c.args.self.now c.requires.some
          (now_sound bytes places c.args.self.now c.self.invariant c.self.view_is).some c.requires.sound,
    )

pub append_places-requires-clause-small : goal.append_places-requires-clause-small
append_places-requires-clause-small c =
    subst (λ (l : List ℕ). AllByRecursion (λ (p : ℕ). p ≤ 4080) l) (sym (slice_same (c.args.to - 1) c.deref-3.result.now))
    (drop_places (c.args.to - 1) c.deref-3.result.now (subst (AllByRecursion (λ (p : ℕ). p ≤ 4080)) (sym c.deref-3.ensures.value)
    (each_place c.self.inside.bytes.items c.self.inside.places.items c.self.invariant.whole)))

pub slice_bounds-extend_from_slice-count-2 : goal.slice_bounds-extend_from_slice-count-2
slice_bounds-extend_from_slice-count-2 c =
    omega (arith, c.start-stop.ensures, c.size-size.ensures, pivots_take c.args.to c.args.self.now)

pub slice_bounds-extend_from_slice-start : goal.slice_bounds-extend_from_slice-start
slice_bounds-extend_from_slice-start c =
    omega (arith, c.start-stop.ensures, c.size-size.ensures, pivots_take c.args.to c.args.self.now)

pub invariant_of-result : goal.invariant_of-result
invariant_of-result c =
    (made_there c.self.inside.bytes.items c.self.inside.places.items c.args.self.now (map pivot_of c.args.children.now) c.args.from c.args.to
    c.self.invariant c.self.view_is c.requires.some c.requires.order c.requires.sound
    c.start.result c.start-stop.result c.size-size.result c.len-2.result (vec_len c.extend_from_slice-3.new.self) c.in_ok-bytes.bytes.items
    c.in_ok-places.places.items c.extend_from_slice.new.self.items c.extend_from_slice-2.new.self.items
    c.append_children.new.bytes.items c.append_children.new.places.items c.extend_from_slice-3.new.self.items c.append_places.new.made.items
    c.resize.new.self.items c.start.ensures c.start-stop.ensures c.size-size.ensures c.in_ok-bytes.ensures.items c.in_ok-places.ensures.items
    (c.in_ok-extend_from_slice.ensures.items ∙ ap (λ (l : List ℕ). c.in_ok-bytes.bytes.items ++ take c.start.result l) c.deref.ensures.value)
    (c.in_ok-extend_from_slice-2.ensures.items ∙ ap (λ (l : List ℕ). c.in_ok-places.places.items ++ take (c.args.from - 1) l) c.deref-2.ensures.value)
    c.in_ok-append_children.ensures.bytes c.in_ok-append_children.ensures.places
    (c.in_ok-append_places.ensures
    ∙ ap (λ (l : List ℕ). c.append_children.new.places.items ++ map (λ p. p - c.start-stop.result + c.len-2.result) l)
    (slice_same (c.args.to - 1) c.deref-3.result.now ∙ ap (λ (l : List ℕ). drop (c.args.to - 1) l) c.deref-3.ensures.value))
    (c.in_ok-extend_from_slice-3.ensures.items
    ∙ ap (λ (l : List ℕ). c.append_children.new.bytes.items ++ take (c.size-size.result - c.start-stop.result) (drop c.start-stop.result l))
    c.deref-4.ensures.value)
    c.in_ok-resize.ensures.items (omega (arith, c.len-2.ensures, c.append_children.new.bytes.ok)) (omega (arith, c.extend_from_slice-3.new.self.ok))).0

pub returns : goal.returns
returns c =
    (made_there c.self.inside.bytes.items c.self.inside.places.items c.args.self.now (map pivot_of c.args.children.now) c.args.from c.args.to
    c.self.invariant c.self.view_is c.requires.some c.requires.order c.requires.sound
    c.start.result c.start-stop.result c.size-size.result c.len-2.result (vec_len c.extend_from_slice-3.new.self) c.in_ok-bytes.bytes.items
    c.in_ok-places.places.items c.extend_from_slice.new.self.items c.extend_from_slice-2.new.self.items
    c.append_children.new.bytes.items c.append_children.new.places.items c.extend_from_slice-3.new.self.items c.append_places.new.made.items
    c.resize.new.self.items c.start.ensures c.start-stop.ensures c.size-size.ensures c.in_ok-bytes.ensures.items c.in_ok-places.ensures.items
    (c.in_ok-extend_from_slice.ensures.items ∙ ap (λ (l : List ℕ). c.in_ok-bytes.bytes.items ++ take c.start.result l) c.deref.ensures.value)
    (c.in_ok-extend_from_slice-2.ensures.items ∙ ap (λ (l : List ℕ). c.in_ok-places.places.items ++ take (c.args.from - 1) l) c.deref-2.ensures.value)
    c.in_ok-append_children.ensures.bytes c.in_ok-append_children.ensures.places
    (c.in_ok-append_places.ensures
    ∙ ap (λ (l : List ℕ). c.append_children.new.places.items ++ map (λ p. p - c.start-stop.result + c.len-2.result) l)
    (slice_same (c.args.to - 1) c.deref-3.result.now ∙ ap (λ (l : List ℕ). drop (c.args.to - 1) l) c.deref-3.ensures.value))
    (c.in_ok-extend_from_slice-3.ensures.items
    ∙ ap (λ (l : List ℕ). c.append_children.new.bytes.items ++ take (c.size-size.result - c.start-stop.result) (drop c.start-stop.result l))
    c.deref-4.ensures.value)
    c.in_ok-resize.ensures.items (omega (arith, c.len-2.ensures, c.append_children.new.bytes.ok)) (omega (arith, c.extend_from_slice-3.new.self.ok))).1
