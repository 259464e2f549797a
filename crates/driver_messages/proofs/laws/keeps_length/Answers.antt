use Rattle.driver_messages.proofs.LengthLaws.{command_keeps_length, keeps_length}
use Rattle.driver_messages.proofs.laws.keeps_length.Goals as goal

pub returns-clause-message : goal.returns-clause-message
returns-clause-message c = keeps_length

pub returns-clause-command : goal.returns-clause-command
returns-clause-command c = command_keeps_length
