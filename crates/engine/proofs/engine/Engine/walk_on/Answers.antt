use Rattle.std.proofs.Common.{Ok, Err, refl}
use Rattle.std.specs.Global.{Vec}
use Rattle.std.proofs.lemmas.Result.{err_from_is_err_and}
use Rattle.bson.specs.Tree.{Pairs}
use Rattle.collections.specs.Walk.{IsWalk, StepsOn}
use Rattle.engine.proofs.Dumping.{batch_dumped, batch_not_dumped}
use Rattle.engine.proofs.LookingLemmas.{looks_so_of}
use Rattle.engine.proofs.engine.Engine.walk_on.Goals as goal

pub returns : goal.returns
returns g c =
    let history = g.D.Disk.history in
    let after = c.next_spelled.new.walk in
    let old = c.args.self.now in
    let new = record old { file = c.next_spelled.new.self } in
    batch_dumped history old new c.args.walk.now after c.in_ok-next_spelled.field-0
    (looks_so_of history old new c.requires.sound refl refl refl (λ now rest. IsWalk now c.args.walk.now rest)
    (λ now rest (batch : Vec Pairs). StepsOn 64 after now rest batch.items)
    (Ok c.in_ok-next_spelled.field-0) c.in_ok-next_spelled.ensures.reads)

pub returns-in_err-next_spelled : goal.returns-in_err-next_spelled
returns-in_err-next_spelled g c =
    let history = g.D.Disk.history in
    let after = c.next_spelled.new.walk in
    let old = c.args.self.now in
    let new = record old { file = c.next_spelled.new.self } in
    let p = err_from_is_err_and c.from_residual.result c.from_residual.ensures.1 in
    rw (p.1, p.2) (batch_not_dumped history old new c.args.walk.now after c.in_err-next_spelled.field-0.0
    (looks_so_of history old new c.requires.sound refl refl refl (λ now rest. IsWalk now c.args.walk.now rest)
    (λ now rest (batch : Vec Pairs). StepsOn 64 after now rest batch.items)
    (Err c.in_err-next_spelled.field-0.0) c.in_err-next_spelled.ensures.reads))
