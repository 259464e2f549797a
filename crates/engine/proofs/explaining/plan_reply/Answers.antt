use Rattle.std.proofs.Common.{◌≤◌, length, sym, ap, subst, arith}
use Rattle.asked_documents.proofs.AskingLemmas.{if_ok}
use Rattle.replies.specs.View.{IsSendable}
use Rattle.replies.proofs.SpelledSizes.{explain-sendable}
use Rattle.engine.proofs.explaining.plan_reply.Goals as goal

pub returns-clause-sendable : goal.returns-clause-sendable
returns-clause-sendable c =
    let short : length c.as_str.result.now ≤ 200 = omega (arith, ap length c.as_str.ensures.value, c.in_ok-text.ensures.short) in
    if_ok c.explain_reply.result (λ d is. subst IsSendable (sym is) (explain-sendable c.as_str.result.now short)) c.explain_reply.ensures
