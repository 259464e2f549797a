use Rattle.driver_sockets.proofs.LoanLemmas.{none_if}
use Rattle.front.proofs.UnreadLemmas.{behind_asked}
use Rattle.front.proofs.serving.ask_question.Goals as goal

pub returns-in-Ok-clause-sound : goal.returns-in-Ok-clause-sound
returns-in-Ok-clause-sound g c =
    let id = c.in-Some-connection_for.id in
    behind_asked g.D.Disk.history c.args.lending.now.loans c.lend.new.self.loans c.args.core.now c.ask.new.core id c.loan_of.result
    c.in-Some.question.now.command c.lend.ensures.there (none_if _ c.in-Some-connection_for.ensures.rest) c.lend.ensures.lent c.requires.sound
    c.in-Ok.ensures.sound c.in-Ok.ensures.running c.in-Ok.ensures.asked
