use Rattle.std.proofs.Common.{◌≡◌, ◌∙◌, Option, true, sym, ap, subst}
use Rattle.std.specs.Prelude.{OnErr, OnOk}
use Rattle.drivers.specs.AloneLaws.{stays_alone}
use Rattle.drivers.specs.Answering.{asks_alone, answered}
use Rattle.drivers.specs.declared.plan.Plan.{Plan}
use Rattle.drivers.specs.declared.step.Step.{Step}
use Rattle.driver_sockets.specs.Alone.{alone_in}
use Rattle.driver_sockets.specs.Questions.{kept_plan}
use Rattle.driver_sockets.specs.Replying.{Follows, TakesReply}
use Rattle.driver_sockets.specs.declared.job.Job.{Job}
use Rattle.driver_sockets.proofs.AloneLemmas.{kept_alone}
use Rattle.driver_sockets.proofs.socket.Socket.try_reply.Goals as goal

pub returns-in-Ok-clause-alone : goal.returns-in-Ok-clause-alone
returns-in-Ok-clause-alone c = λ e.
    let job = c.in-Some.job in
    let alone : asks_alone (answered c.keep_asked.new.plan c.args.reply).0.wait ≡ true =
    sym (ap (λ (x : Plan × Step). asks_alone x.0.wait) c.in-Ok.ensures) ∙ (c.follow.ensures.alone e).0 in
    let kept : asks_alone (kept_plan job).wait ≡ true =
    sym (ap (λ (p : Plan). asks_alone p.wait) c.keep_asked.ensures) ∙ stays_alone c.keep_asked.new.plan c.args.reply alone in
    sym (ap alone_in c.in-Some.ensures.value) ∙ sym (kept_alone job) ∙ kept

pub returns-in-Ok-clause-takes : goal.returns-in-Ok-clause-takes
returns-in-Ok-clause-takes c =
    let old = c.args.self.now in
    let job = c.in-Some.job in
    let r = c.follow.result in
    let new = c.follow.new.self in
    let next : (c.answer.new.self, c.in-Ok.step) ≡ answered (kept_plan job) c.args.reply =
    c.in-Ok.ensures ∙ ap (λ (p : Plan). answered p c.args.reply) c.keep_asked.ensures in
    subst (λ (j : Option Job). OnOk r (TakesReply old j c.args.reply new)) c.in-Some.ensures.value
    (subst (λ (j : Option Job). OnOk r (Follows (record old { job = j }) job.form job.number (answered (kept_plan job) c.args.reply) new)) c.take.ensures.after
    (subst (λ (x : Plan × Step). OnOk r (Follows (record old { job = c.take.new.self }) job.form job.number x new)) next
    c.follow.ensures.follows))

pub returns-in-Ok-clause-rests : goal.returns-in-Ok-clause-rests
returns-in-Ok-clause-rests c =
    subst (λ (j : Option Job). OnErr c.follow.result (c.follow.new.self ≡ record c.args.self.now { job = j })) c.take.ensures.after
    c.follow.ensures.same
