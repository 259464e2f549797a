use Rattle.std.proofs.Common.{None, Some, refl}
use Rattle.driver_sockets.proofs.ReplyingLemmas.{answered_by}
use Rattle.driver_sockets.proofs.socket.Socket.finish.Goals as goal

pub returns-in-Ok-Some-clause-answer : goal.returns-in-Ok-Some-clause-answer
returns-in-Ok-Some-clause-answer c =
    let old = c.args.self.now in
    let next = c.next_number-reply_no.ensures in
    answered_by old _ c.args.form c.args.number c.args.step c.next_number-reply_no.result c.in-Ok-Some.field-0 (Some c.in-Ok-Some.frame) next
    c.in-Ok-Some.field-0-is c.in-Ok-Some.ensures
    (record { ready = refl; rest = λ i. record old { answer = Some c.in-Ok-Some.frame; last_reply = next i } })

pub returns-in-Ok-None-clause-answer : goal.returns-in-Ok-None-clause-answer
returns-in-Ok-None-clause-answer c =
    answered_by c.args.self.now _ c.args.form c.args.number c.args.step c.next_number-reply_no.result c.in-Ok-None.field-0 None c.next_number-reply_no.ensures
    c.in-Ok-None.field-0-is c.in-Ok-None.ensures refl
