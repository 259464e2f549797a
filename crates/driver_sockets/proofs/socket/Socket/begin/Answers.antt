use Rattle.std.proofs.Common.{rules, ◌≡◌, Option, false, Ok, subst}
use Rattle.std.specs.Prelude.{Result, is_some}
use Rattle.driver_messages.specs.Incoming.{next_message, IsNext}
use Rattle.driver_messages.specs.declared.message.Message.{Message}
use Rattle.driver_messages.specs.declared.stream_fault.StreamFault.{StreamFault}
use Rattle.driver_sockets.proofs.ReplyingLemmas.{begins_with, closes_with, none_asked}
use Rattle.driver_sockets.proofs.socket.Socket.begin.Goals as goal

pub returns-in-Ok-Some-clause-asked : goal.returns-in-Ok-Some-clause-asked
returns-in-Ok-Some-clause-asked c = λ e.
    let none : is_some c.args.self.now.job ≡ false = search rules in
    absurd (none_asked c.args.self.now.job none e)

pub returns-in-Ok-Some-clause-begins : goal.returns-in-Ok-Some-clause-begins
returns-in-Ok-Some-clause-begins c =
    begins_with c.start.result c.args.info.now c.args.self.now c.start.new.self c.in-Ok-Some.message c.next.new.self (search rules) (search rules)
    (subst (λ (x : Option Message). let r : Result (Option Message) StreamFault = Ok x in
    IsNext (next_message c.args.self.now.incoming) c.args.self.now.incoming r c.next.new.self)
    c.in-Ok-Some.field-0-is c.in-Ok-Some.ensures) c.start.ensures.starts

pub returns-in-Ok-Some-clause-waits : goal.returns-in-Ok-Some-clause-waits
returns-in-Ok-Some-clause-waits c =
    closes_with c.start.result c.args.self.now c.start.new.self c.in-Ok-Some.message c.next.new.self
    (subst (λ (x : Option Message). let r : Result (Option Message) StreamFault = Ok x in
    IsNext (next_message c.args.self.now.incoming) c.args.self.now.incoming r c.next.new.self)
    c.in-Ok-Some.field-0-is c.in-Ok-Some.ensures) c.start.ensures.closes
