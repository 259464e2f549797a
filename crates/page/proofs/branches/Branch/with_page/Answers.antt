use Rattle.std.proofs.Common.{◌∙◌, List, ℕ, ap, length, subst, sym, arith}
use Rattle.page.specs.Format.{pivots_at}
use Rattle.page.specs.Kept.{KeepsBranch}
use Rattle.page.proofs.ChildPageLemmas.{now_room, patched, place_room, with_is, with_kept}
use Rattle.page.proofs.branches.Branch.with_page.Goals as goal

pub bytes_with_number-requires : goal.bytes_with_number-requires
bytes_with_number-requires c =
    omega (
      arith,
      c.number_place.ensures,
      place_room c.args.i c.args.self.now c.requires,
      now_room c.self.inside.bytes.items c.self.inside.places.items c.args.self.now c.self.invariant c.self.view_is,
      c.self.invariant.len,
      ap (λ (l : List ℕ). length l) c.deref.ensures.value,
    )

pub invariant_of-result : goal.invariant_of-result
invariant_of-result c =
    let bytes = c.self.inside.bytes.items in
    let places = c.self.inside.places.items in
    subst (KeepsBranch c.in_ok-bytes.bytes.items) (sym (c.in_ok-places.ensures.items ∙ c.deref-2.ensures.value))
    (with_kept c.args.i c.args.page
    (omega (arith, c.ranges.page.fits)) bytes places c.in_ok-bytes.bytes.items c.args.self.now c.self.invariant c.self.view_is c.requires
    (c.in_ok-bytes.ensures ∙ (λ j. patched (c.number_place.ensures j) c.args.page (c.deref.ensures.value j))))

pub returns : goal.returns
returns c =
    let bytes = c.self.inside.bytes.items in
    let places = c.self.inside.places.items in
    ap (pivots_at c.in_ok-bytes.bytes.items) (c.in_ok-places.ensures.items ∙ c.deref-2.ensures.value)
    ∙ with_is c.args.i c.args.page
    (omega (arith, c.ranges.page.fits)) bytes places c.in_ok-bytes.bytes.items c.args.self.now c.self.invariant c.self.view_is c.requires
    (c.in_ok-bytes.ensures ∙ (λ j. patched (c.number_place.ensures j) c.args.page (c.deref.ensures.value j)))
