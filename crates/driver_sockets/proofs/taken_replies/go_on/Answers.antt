use Rattle.std.proofs.Common.{rules, inr}
use Rattle.driver_sockets.specs.Replying.{IsClosed, TakesReply}
use Rattle.driver_sockets.proofs.ReplyingLemmas.{becomes_at, becomes_none, becomes_past, on_err, on_ok}
use Rattle.driver_sockets.proofs.taken_replies.go_on.Goals as goal

pub returns-then-number-sockets-clause-takes : goal.returns-then-number-sockets-clause-takes
returns-then-number-sockets-clause-takes c =
    on_ok c.take_reply.result (becomes_at c.args.sockets.now c.args.loan.socket (λ s t. TakesReply s s.job c.args.reply t) c.in-Some.number
    c.index-sockets-number.result c.take_reply.new.self (search rules) (search rules)) c.take_reply.ensures.takes

pub returns-then-number-sockets-clause-closes : goal.returns-then-number-sockets-clause-closes
returns-then-number-sockets-clause-closes c =
    on_err c.take_reply.result (λ e. becomes_at c.args.sockets.now c.args.loan.socket IsClosed c.in-Some.number c.index-sockets-number.result
    c.take_reply.new.self (search rules) (search rules) (inr e)) c.take_reply.ensures.closes

pub returns-clause-takes : goal.returns-clause-takes
returns-clause-takes c =
    becomes_past c.args.sockets.now c.args.sockets.now c.args.loan.socket (λ s t. TakesReply s s.job c.args.reply t) c.in-Some.number (search rules)
    (search rules)

pub returns-in_default-clause-takes : goal.returns-in_default-clause-takes
returns-in_default-clause-takes c =
    becomes_none c.args.sockets.now c.args.sockets.now c.args.loan.socket (λ s t. TakesReply s s.job c.args.reply t) (search rules)
