use Rattle.std.proofs.Common.{◌≡◌, ◌+◌, ◌-◌, ◌≤◌, true, length, refl, ap, ◌∙◌, length-append, arith}
use Rattle.std.specs.Prelude.{◌==◌, ◌||◌, nat_le}
use Rattle.std.specs.Fmt.{decimal}
use Rattle.std.proofs.lemmas.Bool.Decides.{nat_tests}
use Rattle.bson.specs.Spelling.{element, frame_of, pairs_bytes}
use Rattle.projection.specs.Projection.{project}
use Rattle.database_model.specs.Cursors.{item_size}
use Rattle.replies.proofs.BatchLoop.{goes_in}
use Rattle.replies.proofs.open_batch.OpenBatch.offer.Goals as goal
use Rattle.replies.proofs.open_batch.OpenBatch.offer.Goals.{else-self-gt0-via-then-self-gt0+else-self-size, else-self-gt0-via-else-self-gt0}

pub returns : goal.returns
returns g c =
    let old = c.args.self.now in
    let d = project c.args.projection.now (g.T.Gives.document c.args.document.now) in
    let grown : length c.put_item.new.out.items ≡ length old.out.items + item_size old.count d =
    ap length c.in_ok-put_item.ensures.bytes ∙ length-append old.out.items (element 3 (decimal old.count) (frame_of (pairs_bytes d))) in
    let fits : (old.count == 0 || nat_le (item_size old.count d) old.room) ≡ true =
    elim c.else-self-gt0.branch [
      | else-self-gt0-via-then-self-gt0+else-self-size w ↦
          let small : item_size old.count d ≤ old.room =
          omega (arith, grown, w.if-self-size.false, c.len.ensures, c.len-start.ensures, old.out.ok, c.put_item.new.out.ok) in
          grind (arith, nat_tests, small)
      | else-self-gt0-via-else-self-gt0 w ↦ grind (arith, nat_tests, w.if-self-gt0.false)
    ] in
    let room : c.saturating_sub-self.result ≡ old.room - item_size old.count d =
    omega (arith, grown, c.saturating_sub-self.ensures, c.len.ensures, c.len-start.ensures, old.out.ok, c.put_item.new.out.ok) in
    goes_in old _ d refl refl refl refl refl room c.in_ok-put_item.ensures.bytes c.in_ok-put_item.ensures.readable c.requires
    (omega (arith, c.if-self.false)) fits
