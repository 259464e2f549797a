use Rattle.std.proofs.Common.{ap, ◌∙◌, ◌+◌, ℕ, arith}
use Rattle.page.proofs.ChildPageLemmas.{now_long, now_room, place_last}
use Rattle.page.proofs.branches.Branch.size.Goals as goal

pub overflow_add-result : goal.overflow_add-result
overflow_add-result c =
    let bytes = c.self.inside.bytes.items in
    let places = c.self.inside.places.items in
    omega (
      arith,
      c.number_place.ensures,
      place_last c.len.result c.args.self.now
          (omega (arith, c.len.ensures, c.self.inside.places.ok, now_long bytes places c.args.self.now c.self.invariant c.self.view_is)),
      now_room bytes places c.args.self.now c.self.invariant c.self.view_is,
    )

pub returns : goal.returns
returns c =
    let bytes = c.self.inside.bytes.items in
    let places = c.self.inside.places.items in
    ap (λ (n : ℕ). n + 4) c.number_place.ensures
    ∙ place_last c.len.result c.args.self.now
    (omega (arith, c.len.ensures, c.self.inside.places.ok, now_long bytes places c.args.self.now c.self.invariant c.self.view_is))
