use Rattle.std.proofs.Common.{◌∷◌, [], length, arith, sym, ap, subst, ◌∙◌}
use Rattle.std.proofs.lemmas.List.{length-append}
use Rattle.driver_sockets.specs.Serving.{HaveGrown}
use Rattle.driver_sockets.proofs.GrowingLemmas.{grown_one}
use Rattle.driver_sockets.proofs.socket.grow.Goals as goal

pub numbers-preserved : goal.numbers-preserved
numbers-preserved c =
    let before = c.numbers.sockets.items in
    let more = grown_one c.args.sockets.now.items before c.new.result c.new.ensures c.numbers.invariant.1.0 in
    let one = ap length c.in_ok-push.ensures.items ∙ length-append before (c.new.result ∷ []) in (
      omega (arith, one, c.numbers.invariant.0),
      (subst (HaveGrown c.args.sockets.now.items) (sym c.in_ok-push.ensures.items) more, omega (arith, one, c.numbers.invariant.0, c.numbers-test.true)),
    )
