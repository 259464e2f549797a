use Rattle.std.proofs.Common.{◌∙◌, Option, sym, subst}
use Rattle.std.specs.Prelude.{OnOk}
use Rattle.drivers.specs.Laws.{asked_by}
use Rattle.driver_sockets.specs.Questions.{question_in, IsNoOther}
use Rattle.drivers.specs.declared.step.Step.{Step}
use Rattle.driver_sockets.specs.Replying.{GoesOn, IsAnswered}
use Rattle.driver_sockets.specs.declared.job.Job.{Job}
use Rattle.driver_sockets.specs.declared.job.Question.{Question}
use Rattle.driver_sockets.specs.declared.socket.Socket.{Socket}
use Rattle.driver_sockets.proofs.socket.Socket.follow.Goals as goal

pub returns-in-Ok-clause-wants : goal.returns-in-Ok-clause-wants
returns-in-Ok-clause-wants c =
    subst (λ (s : Socket). IsNoOther (question_in s.job) (asked_by c.args.step)) (sym c.work_on.ensures) c.in-Ok.ensures.asks

pub returns-in-Err-clause-wants : goal.returns-in-Err-clause-wants
returns-in-Err-clause-wants c =
    subst (λ (j : Option Job). IsNoOther (question_in j) (asked_by c.args.step)) (sym (c.finish.ensures.job ∙ c.requires)) tt

pub returns-in-Ok-clause-follows : goal.returns-in-Ok-clause-follows
returns-in-Ok-clause-follows c =
    subst (λ (q : Option Question). GoesOn c.args.self.now c.args.form c.args.number c.args.plan c.args.step q c.work_on.new.self)
    (sym c.in-Ok.ensures.question) c.work_on.ensures

pub returns-in-Err-clause-follows : goal.returns-in-Err-clause-follows
returns-in-Err-clause-follows c =
    let r = c.finish.result in
    subst (λ (q : Option Question). OnOk r (GoesOn c.args.self.now c.args.form c.args.number c.args.plan c.args.step q c.finish.new.self))
    (sym c.in-Err.ensures.none)
    (subst (λ (s : Step). OnOk r (IsAnswered c.args.self.now c.args.form c.args.number s c.finish.new.self)) c.in-Err.ensures.answers
    c.finish.ensures.answer)
