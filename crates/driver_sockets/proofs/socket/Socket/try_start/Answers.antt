use Rattle.std.proofs.Common.{◌≡◌, ◌∙◌, false, sym, ap, subst}
use Rattle.std.specs.Prelude.{OnOk}
use Rattle.std.proofs.lemmas.Bool.{true≢false}
use Rattle.drivers.specs.AloneLaws.{is_later, starts_first}
use Rattle.drivers.specs.Laws.{asked_by}
use Rattle.drivers.specs.declared.plan.Plan.{Plan}
use Rattle.drivers.specs.declared.step.Step.{Step}
use Rattle.driver_sockets.specs.Alone.{has_begun}
use Rattle.driver_sockets.specs.Questions.{question_in, IsNoOther}
use Rattle.driver_sockets.specs.Replying.{Follows}
use Rattle.driver_sockets.proofs.AloneLemmas.{rests}
use Rattle.driver_sockets.proofs.socket.Socket.try_start.Goals as goal

pub returns-in-Ok-clause-begun : goal.returns-in-Ok-clause-begun
returns-in-Ok-clause-begun c =
    let first : is_later c.in-Ok.plan.wait ≡ false =
    ap (λ (p : Plan). is_later p.wait) c.in-Ok.ensures.0 ∙ starts_first c.args.info.now.ids c.args.message in
    rests (has_begun c.follow.new.self) (λ e. true≢false (sym (c.follow.ensures.alone e).1 ∙ first))

pub returns-in-Ok-clause-wants : goal.returns-in-Ok-clause-wants
returns-in-Ok-clause-wants c =
    subst (λ (s : Step). IsNoOther (question_in c.follow.new.self.job) (asked_by s)) c.in-Ok.ensures.1 c.follow.ensures.wants

pub returns-in-Ok-clause-starts : goal.returns-in-Ok-clause-starts
returns-in-Ok-clause-starts c =
    subst (λ (x : Plan × Step). OnOk c.follow.result (Follows c.args.self.now c.args.message.form c.args.message.number x c.follow.new.self))
    (λ i. (c.in-Ok.ensures.0 i, c.in-Ok.ensures.1 i)) c.follow.ensures.follows
