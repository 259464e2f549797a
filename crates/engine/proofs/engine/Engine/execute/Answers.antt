use Rattle.std.proofs.Common.{◌≡◌, ◌⊎◌, inl, subst, sym}
use Rattle.database_model.specs.Refusals.{refusal_reply}
use Rattle.database_model.specs.Step.{RefusedBeside, answered}
use Rattle.path.specs.declared.refusal.Refusal.{Refusal}
use Rattle.path.specs.declared.refusal.Refusal.TheVariants as refusals
use Rattle.engine.specs.Laws.{ForMemory}
use Rattle.database_model.specs.Step.{read_and_run}
use Rattle.replies.specs.View.{answer_of}
use Rattle.engine.specs.View.{world}
use Rattle.replies.proofs.SpelledSizes.{refusal-sendable}
use Rattle.engine.proofs.Sound.{answers_done, refused_for_memory}
use Rattle.engine.proofs.TroublesLemmas.{TellsHere, answers_told, answers_told_reading, as_here, met_no_trouble, told_as_met}
use Rattle.engine.proofs.engine.Engine.execute.Goals as goal

pub returns-in-Ok-clause-answers : goal.returns-in-Ok-clause-answers
returns-in-Ok-clause-answers g c = λ k.
    let old = c.args.self.now in
    let new = c.run.new.self in
    inl (answers_done (world old) (world new) (read_and_run (world old) c.args.connection c.args.body.now) (answer_of c.in-Ok.answer)
    (c.in-Ok.ensures.performs.as_planned k))

pub returns-in-Err-clause-answers : goal.returns-in-Err-clause-answers
returns-in-Err-clause-answers g c = λ k.
    let history = g.D.Disk.history in
    let old = c.args.self.now in
    let new = c.run.new.self in
    let continues = c.in-Err.ensures.performs.continues in
    let told = c.told.result in
    let tells : TellsHere history old new continues c.in-Err.refusal told =
    as_here history old new continues c.in-Err.refusal told c.troubles_of-before.ensures c.troubles_of.ensures c.told.ensures in
    answers_told history old new continues c.in-Err.refusal told k
    (read_and_run (world old) c.args.connection c.args.body.now) (c.in-Err.ensures.performs.as_planned k) tells

pub returns-in-Err-clause-memory : goal.returns-in-Err-clause-memory
returns-in-Err-clause-memory g c = λ k memory.
    let history = g.D.Disk.history in
    let old = c.args.self.now in
    let new = c.run.new.self in
    let continues = c.in-Err.ensures.performs.continues in
    let told = c.told.result in
    let tells : TellsHere history old new continues c.in-Err.refusal told =
    as_here history old new continues c.in-Err.refusal told c.troubles_of-before.ensures c.troubles_of.ensures c.told.ensures in
    let is : told ≡ refusals.OutOfMemory = cc in
    met_no_trouble history old new continues c.in-Err.refusal told k tells is

pub returns-in-Err-clause-sendable : goal.returns-in-Err-clause-sendable
returns-in-Err-clause-sendable g c = refusal-sendable c.told.result

pub returns-in-Ok-clause-refused : goal.returns-in-Ok-clause-refused
returns-in-Ok-clause-refused g c refusal = absurd refusal

pub returns-in-Err-clause-refused : goal.returns-in-Err-clause-refused
returns-in-Err-clause-refused g c refusal = (c.in-Err.ensures.performs.left, c.in-Err.ensures.performs.refused)

pub returns-in-Ok-clause-keeps : goal.returns-in-Ok-clause-keeps
returns-in-Ok-clause-keeps g c = c.in-Ok.ensures.performs.keeps

pub returns-in-Err-clause-keeps : goal.returns-in-Err-clause-keeps
returns-in-Err-clause-keeps g c = c.in-Err.ensures.performs.keeps

-- ---- a command that asks for no collection

pub returns-in-Ok-clause-sure : goal.returns-in-Ok-clause-sure
returns-in-Ok-clause-sure g c none =
    let old = world c.args.self.now in
    inl (answers_done old (world c.run.new.self) (read_and_run old c.args.connection c.args.body.now) (answer_of c.in-Ok.answer) (c.in-Ok.ensures.sure none))

pub returns-in-Err-clause-sure : goal.returns-in-Err-clause-sure
returns-in-Err-clause-sure g c none =
    let history = g.D.Disk.history in
    let old = c.args.self.now in
    let new = c.run.new.self in
    let continues = c.in-Err.ensures.performs.continues in
    let told = c.told.result in
    let tells : TellsHere history old new continues c.in-Err.refusal told =
    as_here history old new continues c.in-Err.refusal told c.troubles_of-before.ensures c.troubles_of.ensures c.told.ensures in
    let is : told ≡ c.in-Err.refusal =
    told_as_met history old new continues c.in-Err.refusal told (c.in-Err.ensures.still none) tells in
    subst (λ (e : Refusal). ((world new, refusal_reply e) ≡ answered (world old) (read_and_run (world old) c.args.connection c.args.body.now))
    ⊎ RefusedBeside ForMemory (world old) (answered (world old) (read_and_run (world old) c.args.connection c.args.body.now)).0 (world new) (refusal_reply e))
    (sym is)
    (refused_for_memory (world old) (world new) (read_and_run (world old) c.args.connection c.args.body.now) c.in-Err.refusal (c.in-Err.ensures.sure none))

-- ---- a command that only reads

pub returns-in-Ok-clause-reads : goal.returns-in-Ok-clause-reads
returns-in-Ok-clause-reads g c only = (c.in-Ok.ensures.reads only).changes

pub returns-in-Err-clause-reads : goal.returns-in-Err-clause-reads
returns-in-Err-clause-reads g c only = (c.in-Err.ensures.reads only).changes

pub returns-in-Ok-clause-takes : goal.returns-in-Ok-clause-takes
returns-in-Ok-clause-takes g c only = (c.in-Ok.ensures.reads only).takes

pub returns-in-Err-clause-takes : goal.returns-in-Err-clause-takes
returns-in-Err-clause-takes g c only = (c.in-Err.ensures.reads only).takes

pub returns-in-Ok-clause-room : goal.returns-in-Ok-clause-room
returns-in-Ok-clause-room g c = λ k only.
    let old = c.args.self.now in
    let new = c.run.new.self in
    inl (answers_done (world old) (world new) (read_and_run (world old) c.args.connection c.args.body.now) (answer_of c.in-Ok.answer)
    ((c.in-Ok.ensures.reads only).as_planned k))

pub returns-in-Err-clause-room : goal.returns-in-Err-clause-room
returns-in-Err-clause-room g c = λ k only.
    let old = c.args.self.now in
    let new = c.run.new.self in
    let history = g.D.Disk.history in
    let continues = c.in-Err.ensures.performs.continues in
    let told = c.told.result in
    let tells : TellsHere history old new continues c.in-Err.refusal told =
    as_here history old new continues c.in-Err.refusal told c.troubles_of-before.ensures c.troubles_of.ensures c.told.ensures in
    answers_told_reading history old new continues c.in-Err.refusal told k
    (read_and_run (world old) c.args.connection c.args.body.now) ((c.in-Err.ensures.reads only).as_planned k) (c.in-Err.ensures.reads only).takes tells

pub returns-in-Ok-clause-memory : goal.returns-in-Ok-clause-memory
returns-in-Ok-clause-memory g c = λ k memory. absurd cc
