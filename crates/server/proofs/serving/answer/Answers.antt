use Rattle.std.proofs.Common.{◌≡◌, inl, refl, sym, subst}
use Rattle.std.specs.Prelude.{Result, Ok, Err}
use Rattle.bson.specs.Tree.{Pairs}
use Rattle.outcome.specs.Outcome.{Gives}
use Rattle.bson_bytes.specs.declared.fault.BsonFault.{BsonFault}
use Rattle.bson_bytes.specs.declared.fault.BsonFault.TheVariants as bson_faults
use Rattle.replies.proofs.SpelledSizes.{refusal-sendable}
use Rattle.engine.specs.View.{world, reply_of}
use Rattle.engine.specs.Durable.{file_of}
use Rattle.engine.specs.Laws.{BodyNeedsNoDisk, BodyOnlyReads, ForMemory}
use Rattle.database_model.specs.Step.{Answers, WroteNothing}
use Rattle.engine.specs.Writing.{FileCause}
use Rattle.engine.proofs.Continuing.{continues_itself}
use Rattle.server.specs.Causes.{IsCaused}
use Rattle.server.specs.Durable.{engine_moment}
use Rattle.server.proofs.CauseLemmas.{answers_weaker, file_caused}
use Rattle.server.proofs.BodyAnswers.{answered_anyhow, refused_body}
use Rattle.server.proofs.serving.answer.Goals as goal

pub returns-in-Err-clause-sendable : goal.returns-in-Err-clause-sendable
returns-in-Err-clause-sendable g c = refusal-sendable c.body_refusal.result

pub returns-in-Ok-clause-answer : goal.returns-in-Ok-clause-answer
returns-in-Ok-clause-answer g c k read gives =
    let same : read ≡ Ok c.in-Ok.document = subst (λ body. Gives bson_faults.Memory (λ d. d) body read) c.in-Ok.is gives in
    let history = g.D.Disk.history in
    let old = c.args.engine.now in
    let new = c.execute.new.self in
    answers_weaker (FileCause history (file_of old) (file_of new)) (IsCaused (engine_moment history old) (engine_moment history new))
    (file_caused history old new c.requires.running)
    (world old) c.args.id read (world new) (reply_of c.execute.result)
    (subst (λ (r : Result Pairs BsonFault). Answers (FileCause history (file_of old) (file_of new)) (world old) c.args.id r (world new)
    (reply_of c.execute.result)) (sym same) (c.execute.ensures.answers k))

pub returns-in-Err-clause-answer : goal.returns-in-Err-clause-answer
returns-in-Err-clause-answer g c k read gives =
    let moment = engine_moment g.D.Disk.history c.args.engine.now in
    refused_body (IsCaused moment moment) (λ planned. inl refl)
    (world c.args.engine.now) c.args.id c.in-Err.fault c.body_refusal.result read c.body_refusal.ensures.memory c.body_refusal.ensures.other
    (subst (λ body. Gives bson_faults.Memory (λ d. d) body read) c.in-Err.is gives)

pub returns-in-Err-clause-continues : goal.returns-in-Err-clause-continues
returns-in-Err-clause-continues g c = continues_itself g.D.Disk.history c.args.engine.now

pub returns-in-Ok-clause-quiet : goal.returns-in-Ok-clause-quiet
returns-in-Ok-clause-quiet g c = λ k read gives wrote.
    let same : read ≡ Ok c.in-Ok.document = subst (λ body. Gives bson_faults.Memory (λ d. d) body read) c.in-Ok.is gives in
    let nothing = subst (λ (r : Result Pairs BsonFault). WroteNothing (world c.args.engine.now) r (world c.execute.new.self)) same wrote in
    c.execute.ensures.has_changes k nothing

pub returns-in-Ok-clause-reads : goal.returns-in-Ok-clause-reads
returns-in-Ok-clause-reads g c = λ read gives only.
    let same : read ≡ Ok c.in-Ok.document = subst (λ body. Gives bson_faults.Memory (λ d. d) body read) c.in-Ok.is gives in
    c.execute.ensures.reads (subst BodyOnlyReads same only)

pub returns-in-Ok-clause-anyhow : goal.returns-in-Ok-clause-anyhow
returns-in-Ok-clause-anyhow g c = λ read gives.
    let w = world c.args.engine.now in
    let new = world c.execute.new.self in
    let same : read ≡ Ok c.in-Ok.document = subst (λ body. Gives bson_faults.Memory (λ d. d) body read) c.in-Ok.is gives in
    answered_anyhow w new c.args.id read c.execute.result (λ refused. (c.execute.ensures.refused refused).0)
    (subst (λ (r : Result Pairs BsonFault). BodyNeedsNoDisk r → Answers ForMemory w c.args.id r new (reply_of c.execute.result)) (sym same)
    c.execute.ensures.sure)

pub returns-in-Err-clause-anyhow : goal.returns-in-Err-clause-anyhow
returns-in-Err-clause-anyhow g c = λ read gives. record {
  outcome = Err c.body_refusal.result;
  says = refl;
  refused = refl;
  sure = λ none. refused_body ForMemory (λ planned. refl) (world c.args.engine.now) c.args.id c.in-Err.fault c.body_refusal.result read
      c.body_refusal.ensures.memory c.body_refusal.ensures.other (subst (λ body. Gives bson_faults.Memory (λ d. d) body read) c.in-Err.is gives);
}
