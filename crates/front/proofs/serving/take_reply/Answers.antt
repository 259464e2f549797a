use Rattle.std.proofs.Common.{◌≡◌, ap, inl}
use Rattle.driver_sockets.specs.Lending.{borrower}
use Rattle.driver_sockets.specs.Replying.{closed, IsClosed}
use Rattle.driver_sockets.proofs.ReplyingLemmas.{becomes_more, becomes_same, on_err, on_ok, takes_document}
use Rattle.front.proofs.UnreadLemmas.{turned_ended}
use Rattle.front.proofs.serving.take_reply.Goals as goal

pub returns-in-Ok-clause-takes : goal.returns-in-Ok-clause-takes
returns-in-Ok-clause-takes g c =
    on_ok c.go_on.result
    (takes_document c.args.frame.now c.args.sockets.now c.go_on.new.sockets _ _ c.in-Ok.reply c.in-Ok.ensures (ap borrower c.in-Some.ensures.loan))
    c.go_on.ensures.takes

pub returns-in-Ok-clause-closes : goal.returns-in-Ok-clause-closes
returns-in-Ok-clause-closes g c =
    on_err c.go_on.result (becomes_same c.args.sockets.now c.go_on.new.sockets _ _ IsClosed (ap borrower c.in-Some.ensures.loan)) c.go_on.ensures.closes

pub returns-in-Err-clause-closes : goal.returns-in-Err-clause-closes
returns-in-Err-clause-closes g c =
    becomes_same c.args.sockets.now c.give_up.new.sockets _ _ IsClosed (ap borrower c.in-Some.ensures.loan)
    (becomes_more _ _ _ (λ s t. t ≡ closed s) IsClosed (λ s t h. inl h) c.give_up.ensures.closes)

pub returns-in-Err-clause-turned : goal.returns-in-Err-clause-turned
returns-in-Err-clause-turned g c =
    turned_ended g.D.Disk.history c.args.core.now c.gone.new.self c.args.owner c.requires.turned c.gone.ensures.sound c.gone.ensures.state
