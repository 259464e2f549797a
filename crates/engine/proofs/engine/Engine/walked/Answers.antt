use Rattle.std.proofs.Common.{refl}
use Rattle.asked_documents.specs.Asking.{IsAsked}
use Rattle.walks.specs.Batches.{IsGivenBatch}
use Rattle.walks.specs.declared.batches.GivenBatch.{GivenBatch}
use Rattle.engine.proofs.LookingLemmas.{looks_so_of}
use Rattle.engine.proofs.NamedLemmas.{asked_at_home}
use Rattle.engine.proofs.engine.Engine.walked.Goals as goal

pub returns-clause-looks : goal.returns-clause-looks
returns-clause-looks g c =
    let history = g.D.Disk.history in
    let old = c.args.self.now in
    let new = record old { file = c.batch_of_turn.new.file } in
    asked_at_home history c.args.home.now old new (λ now of (b : GivenBatch). IsGivenBatch c.args.walk.now c.args.asked.now of.documents b)
    c.batch_of_turn.result c.requires.sound
    (looks_so_of history old new c.requires.sound refl refl refl (IsAsked c.args.home.now)
    (λ now of (b : GivenBatch). IsGivenBatch c.args.walk.now c.args.asked.now of.documents b) c.batch_of_turn.result c.batch_of_turn.ensures.reads)
