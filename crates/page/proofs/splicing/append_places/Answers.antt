use Rattle.std.proofs.Common.{◌+◌, ◌-◌, arith}
use Rattle.page.proofs.SplicingLemmas.{all_places}
use Rattle.page.proofs.splicing.append_places.Goals as goal

pub returns : goal.returns
returns c =
    all_places (λ p. p - c.args.from + c.args.to) c.loop-place.made.items c.args.made.now.items c.args.places.now c.loop-place.place-index
    (omega arith) c.loop-place.invariant
