use Rattle.std.proofs.Common.{Result, Err, refl, sym, ap, subst}
use Rattle.command_model.specs.Command.{Command}
use Rattle.database_model.specs.Step.{read_and_run, run}
use Rattle.outcome.specs.Outcome.{◌>>=◌}
use Rattle.path.specs.declared.refusal.Refusal.{Refusal}
use Rattle.replies.specs.View.{outcome_of, Runs}
use Rattle.engine.specs.Laws.{NeedsNoDisk, OnlyReads}
use Rattle.engine.specs.Performing.{RunsReadingCommand}
use Rattle.engine.specs.View.{world}
use Rattle.engine.proofs.KeepingPins.{pins_as_before}
use Rattle.engine.proofs.Sound.{lawful_world, performs_in_memory}
use Rattle.engine.proofs.engine.Engine.run.Goals as goal

pub returns-in-Ok-clause-reads : goal.returns-in-Ok-clause-reads
returns-in-Ok-clause-reads g c only =
    let old = c.args.self.now in
    subst (λ (read : Result Command Refusal). RunsReadingCommand g.D.Disk.history (read >>= run (world old) c.args.connection)
    (outcome_of c.perform-outcome.result) old c.perform-outcome.new.self)
    (sym c.in-Ok.ensures.gives) (c.perform-outcome.ensures.reads (subst OnlyReads c.in-Ok.ensures.gives only))

pub returns-in-Err-clause-reads : goal.returns-in-Err-clause-reads
returns-in-Err-clause-reads g c only =
    let history = g.D.Disk.history in
    let old = c.args.self.now in
    performs_in_memory history old old (read_and_run (world old) c.args.connection c.args.body.now) (Err c.in-Err.refusal) c.requires.sound
    (pins_as_before old.is_changed history old.file old.cursors old.cursors refl) refl refl (lawful_world history old c.requires.sound)
    (refl, λ other. ap (λ (read : Result Command Refusal). read >>= run (world old) c.args.connection) (c.in-Err.ensures.gives other))

pub returns-in-Ok-clause-sure : goal.returns-in-Ok-clause-sure
returns-in-Ok-clause-sure g c none =
    let w = world c.args.self.now in
    subst (λ (r : Result Command Refusal). Runs w (r >>= (λ command. run w c.args.connection command)) (world c.perform-outcome.new.self)
    (outcome_of c.perform-outcome.result))
    (sym c.in-Ok.ensures.gives) (c.perform-outcome.ensures.sure (subst NeedsNoDisk c.in-Ok.ensures.gives none))

pub returns-in-Ok-clause-still : goal.returns-in-Ok-clause-still
returns-in-Ok-clause-still g c none = c.perform-outcome.ensures.still (subst NeedsNoDisk c.in-Ok.ensures.gives none)
