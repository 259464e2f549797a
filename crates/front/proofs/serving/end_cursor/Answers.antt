use Rattle.front.proofs.AskingLemmas.{ends_first, ends_on}
use Rattle.driver_sockets.proofs.LoanLemmas.{none_if}
use Rattle.front.proofs.UnreadLemmas.{behind_asked}
use Rattle.front.proofs.serving.end_cursor.Goals as goal

pub returns-clause-ends : goal.returns-clause-ends
returns-clause-ends g c =
    ends_first _ c.in-Some.cursor.now _ _ _ _ c.in-Some.ensures.first
    (ends_on c.in-Some.cursor.now c.in-Ok.command c.loan_to_end.result c.args.lending.now.loans c.lend.new.self.loans _ _ c.in-Some.ensures.rest
    c.in-Ok.ensures c.loan_to_end.ensures c.lend.ensures.lent c.in_ok-ask.ensures.asked)

pub returns-clause-sound : goal.returns-clause-sound
returns-clause-sound g c =
    let id = c.in-Some.cursor.now.owner in
    behind_asked g.D.Disk.history c.args.lending.now.loans c.lend.new.self.loans c.args.core.now c.ask.new.core id c.loan_to_end.result
    c.in-Ok.command c.lend.ensures.there (none_if _ c.in-Some.ensures.rest) c.lend.ensures.lent c.requires.sound
    c.in_ok-ask.ensures.sound c.in_ok-ask.ensures.running c.in_ok-ask.ensures.asked
