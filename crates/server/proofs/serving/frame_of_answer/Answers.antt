use Rattle.std.proofs.Common.{◌≡◌, List, ℕ, ap, subst, sym, ◌∙◌}
use Rattle.std.specs.Prelude.{IfOk}
use Rattle.bson.specs.Tree.{Pairs}
use Rattle.bson.specs.Spelling.{frame_of, pairs_bytes}
use Rattle.op_msg.specs.Request.{frame_bytes, reply_bytes}
use Rattle.replies.specs.View.{answer_of}
use Rattle.server.proofs.serving.frame_of_answer.Goals as goal

pub returns-in-Spelled : goal.returns-in-Spelled
unfolding reply_bytes
returns-in-Spelled c =
    let spelled : c.bytes.result.now ≡ frame_of (pairs_bytes (answer_of c.args.answer.now)) =
    c.bytes.ensures.spelled ∙ ap (λ (ps : Pairs). frame_of (pairs_bytes ps)) (sym (ap answer_of c.in-Spelled.is)) in
    subst (λ (x : List ℕ). IfOk c.spelled_reply.result (λ v. v.items ≡ x)) (ap (frame_bytes c.args.number c.args.request_id) spelled) c.spelled_reply.ensures
