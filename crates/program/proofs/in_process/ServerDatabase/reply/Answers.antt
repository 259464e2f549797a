use Rattle.std.proofs.Common.{refl, inl, inr, sym, ap, subst, ◌∙◌, ◌≡◌, false}
use Rattle.std.specs.Prelude.{Result, Err}
use Rattle.server.specs.Durable.{collections_of, disk_history, is_stopped}
use Rattle.server.specs.ServerState.{ServerState}
use Rattle.server.specs.Turning.{TakesTurn}
use Rattle.server.specs.declared.turn.TurnOut.{TurnOut}
use Rattle.server.specs.declared.turn.TurnFault.{TurnFault}
use Rattle.server.specs.declared.turn.TurnFault.TheVariants as turns
use Rattle.program.proofs.CommandLemmas.{answered, asked_of, when_err}
use Rattle.program.proofs.in_process.ServerDatabase.reply.Goals as goal

pub returns-in_default-clause-answers : goal.returns-in_default-clause-answers
returns-in_default-clause-answers g c = (sym c.is_stopped.ensures ∙ c.if-is_stopped.false, inl (refl, refl))

pub returns-then-is_err-clause-answers : goal.returns-then-is_err-clause-answers
returns-then-is_err-clause-answers g c = (
  sym c.is_stopped.ensures ∙ c.if-is_stopped.false,
  inl (
    ap (λ (s : ServerState). s.world.collections) (when_err c.feed.result (sym c.is_err.ensures.value ∙ c.if-is_err.true) c.feed.ensures.err),
    c.feed.ensures.disk,
  ),
)

pub returns-in-Ok-turn-clause-answers : goal.returns-in-Ok-turn-clause-answers
returns-in-Ok-turn-clause-answers g c =
    let old = c.args.self.now.core in
    let runs : is_stopped old ≡ false = sym c.is_stopped.ensures ∙ c.if-is_stopped.false in
    answered g.D.Disk.history old c.args.command.now c.turn.new.self c.in-Ok-turn.turn runs
    (record {
      asked = c.feed.new.self;
      message = asked_of old c.feed.new.self c.only_connection-id.result c.deref.result.now c.args.command.now c.feed.result
          (sym c.is_err.ensures.value ∙ c.if-is_err.false) c.feed.ensures.fed c.only_connection-id.ensures (c.deref.ensures.value ∙ c.in-Ok.ensures);
      file = c.feed.ensures.file;
      turn = c.in-Ok-turn.ensures;
    })
    c.document_of.result c.document_of.ensures.says c.document_of.ensures.memory

pub returns-in-Err-Stopped-clause-answers : goal.returns-in-Err-Stopped-clause-answers
returns-in-Err-Stopped-clause-answers g c =
    let old = c.args.self.now.core in
    inr (
      sym c.is_stopped.ensures ∙ c.if-is_stopped.false,
      record {
        asked = c.feed.new.self;
        message = asked_of old c.feed.new.self c.only_connection-id.result c.deref.result.now c.args.command.now c.feed.result
            (sym c.is_err.ensures.value ∙ c.if-is_err.false) c.feed.ensures.fed c.only_connection-id.ensures (c.deref.ensures.value ∙ c.in-Ok.ensures);
        file = c.feed.ensures.file;
        turn = subst (λ (f : TurnFault). let r : Result TurnOut TurnFault = Err f in TakesTurn g.D.Disk.history c.feed.new.self r c.turn.new.self)
            c.in-Err-Stopped.field-0-is c.in-Err-Stopped.ensures;
      },
    )

pub returns-clause-answers : goal.returns-clause-answers
returns-clause-answers g c =
    let old = c.args.self.now.core in
    let asked = c.feed.new.self in
    let taken = subst (λ (f : TurnFault). let r : Result TurnOut TurnFault = Err f in TakesTurn g.D.Disk.history asked r c.turn.new.self)
    c.in-Err-Memory.field-0-is c.in-Err-Memory.ensures in
    let message = asked_of old asked c.only_connection-id.result c.deref.result.now c.args.command.now c.feed.result
    (sym c.is_err.ensures.value ∙ c.if-is_err.false) c.feed.ensures.fed c.only_connection-id.ensures (c.deref.ensures.value ∙ c.in-Ok.ensures) in
    let same : c.turn.new.self ≡ asked = taken.untouched refl in (
      sym c.is_stopped.ensures ∙ c.if-is_stopped.false,
      inl (
        ap (λ (s : ServerState). s.world.collections) c.gone.ensures.state ∙ ap collections_of same ∙ ap (λ (s : ServerState). s.world.collections) message,
        c.gone.ensures.disk ∙ ap (disk_history g.D.Disk.history) same ∙ c.feed.ensures.disk,
      ),
    )
