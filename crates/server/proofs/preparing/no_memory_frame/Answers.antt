use Rattle.std.proofs.Common.{◌≡◌, ℕ, List, length, ap, subst, arith}
use Rattle.std.specs.Prelude.{IfOk}
use Rattle.op_msg.specs.Request.{frame_bytes, reply_bytes}
use Rattle.path.specs.declared.refusal.Refusal.TheVariants as refusals
use Rattle.replies.proofs.SpelledSizes.{refusal-sendable}
use Rattle.server.proofs.preparing.no_memory_frame.Goals as goal

pub spelled_reply-requires : goal.spelled_reply-requires
spelled_reply-requires c = omega (arith, refusal-sendable refusals.OutOfMemory, ap length c.out_of_memory_bytes.ensures)

pub returns : goal.returns
unfolding reply_bytes
returns c =
    subst (λ (body : List ℕ). IfOk c.spelled_reply.result (λ v. v.items ≡ frame_bytes c.args.number c.args.request_id body)) c.out_of_memory_bytes.ensures
    c.spelled_reply.ensures
