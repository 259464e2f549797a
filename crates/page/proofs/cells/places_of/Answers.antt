use Rattle.std.proofs.Common.{◌+◌, ◌-◌, ℕ, List, ap, ◌∙◌, sym, arith, length-drop}
use Rattle.std.proofs.lemmas.Result.{err_from_is_err_and}
use Rattle.page.specs.CellView.{size_by}
use Rattle.page.specs.Format.{places_in}
use Rattle.page.proofs.PlaceLemmas.{with_front}
use Rattle.page.proofs.ReadLemmas.{place_refused, place_passed, place_room}
use Rattle.page.proofs.cells.places_of.Goals as goal

pub returns-in_err-size : goal.returns-in_err-size
returns-in_err-size c =
    let p = err_from_is_err_and c.from_residual-in_err-size.result c.from_residual-in_err-size.ensures.1 in
    let size = size_by c.args.form in
    rw (p.1, p.2)
    (λ isnt. c.loop.invariant.left
    ∙ place_refused size c.args.bytes.now c.args.count c.loop.counter c.loop.at (omega arith) c.loop.places.items c.in_err-size.field-0.0 c.in_err-size.ensures)

pub loop-preserved : goal.loop-preserved
loop-preserved c =
    let size = size_by c.args.form in
    record {
      room = omega (
        arith,
        c.requires.len,
        length-drop c.loop.at c.args.bytes.now,
        c.loop.invariant.room,
        place_room size c.args.bytes.now c.args.count c.loop.counter c.loop.at (omega arith) c.in_ok-size.size c.in_ok-size.ensures,
      );
      left =
          c.loop.invariant.left
          ∙ place_passed size c.args.bytes.now c.args.count c.loop.counter c.loop.at (omega arith) c.loop.places.items c.in_ok-size.size c.in_ok-size.ensures
          ∙ ap (λ (l : List ℕ). with_front l (places_in size (c.args.count - (c.loop.counter + 1)) (c.loop.at + c.in_ok-size.size) c.args.bytes.now))
          (sym c.in_ok-note_place.ensures);
    }
