use Rattle.std.proofs.Common.{◌∙◌, sym}
use Rattle.front.specs.OneSocket.{seat}
use Rattle.front.proofs.AskingLemmas.{asked_wanted}
use Rattle.front.proofs.OneSocketLemmas.{serves_held, serves_on}
use Rattle.driver_sockets.proofs.ReplyingLemmas.{on_ok}
use Rattle.front.proofs.serving.serve_socket.Goals as goal

pub returns-clause-wanted : goal.returns-clause-wanted
returns-clause-wanted g c = asked_wanted _ _ _ _ _ _ _ c.begin.ensures.wants c.ask_question.ensures.wanted

pub returns-then-is_held-clause-serves : goal.returns-then-is_held-clause-serves
returns-then-is_held-clause-serves g c =
    serves_held c.args.info.now c.args.number c.args.cursors.now.list.items (seat c.args.lending.now c.args.core.now c.args.socket.now)
    c.begin.new.self c.in_ok-begin.ensures.begins (sym c.is_held.ensures ∙ c.if-is_held.true)

pub returns-clause-serves : goal.returns-clause-serves
returns-clause-serves g c =
    on_ok c.ask_question.result (serves_on c.args.info.now c.args.number c.args.cursors.now.list.items
    (seat c.args.lending.now c.args.core.now c.args.socket.now) _ c.begin.new.self c.in_ok-begin.ensures.begins (sym c.is_held.ensures ∙ c.if-is_held.false))
    c.ask_question.ensures.asking
