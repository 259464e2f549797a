use Rattle.std.proofs.Common.{◌≡◌, ℕ, ◌++◌, length, ap, ◌∙◌, arith}
use Rattle.bson.specs.Spelling.{frame_of, pairs_bytes}
use Rattle.op_msg.specs.Request.{head_bytes, reply_bytes}
use Rattle.op_msg.proofs.writing.reply.Goals as goal

pub returns-in-Ok : goal.returns-in-Ok
unfolding reply_bytes
returns-in-Ok c =
    let body = frame_of (pairs_bytes c.args.document.now) in
    let size : c.encoded_len.result ≡ length body = omega (arith, c.encoded_len.ensures, c.requires) in
    c.in-Ok.ensures.ok ∙ ap (λ front. front ++ body) (c.in_ok-frame.ensures ∙ ap (λ (len : ℕ). head_bytes c.args.reply_no c.args.request_id len) size)
