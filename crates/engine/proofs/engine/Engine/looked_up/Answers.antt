use Rattle.std.proofs.Common.{Option, refl}
use Rattle.std.specs.Prelude.{IfSome}
use Rattle.asked_documents.specs.Asking.{IsAsked}
use Rattle.queries.specs.LookedUp.{IsLookedUp}
use Rattle.queries.specs.declared.looked_up.LookedUp.{LookedUp}
use Rattle.engine.proofs.LookingLemmas.{looks_so_of}
use Rattle.engine.proofs.NamedLemmas.{asked_at_home}
use Rattle.engine.proofs.engine.Engine.looked_up.Goals as goal

pub returns-clause-looks : goal.returns-clause-looks
returns-clause-looks g c =
    let history = g.D.Disk.history in
    let old = c.args.self.now in
    let new = record old { file = c.looked_up_first.new.file } in
    asked_at_home history c.args.home.now old new
    (λ now of (o : Option LookedUp). IfSome o (IsLookedUp c.args.walk.now c.args.asked.now c.args.most of.documents)) c.looked_up_first.result
    c.requires.sound
    (looks_so_of history old new c.requires.sound refl refl refl (IsAsked c.args.home.now)
    (λ now of (o : Option LookedUp). IfSome o (IsLookedUp c.args.walk.now c.args.asked.now c.args.most of.documents)) c.looked_up_first.result
    c.looked_up_first.ensures.reads)
