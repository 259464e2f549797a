use Rattle.commands.specs.View.{command_read}
use Rattle.command_model.specs.CommandLaws.{bounded, gives-bounded}
use Rattle.commands.proofs.command.Command.read.Goals as goal

pub returns-in-Some-clause-bounded : goal.returns-in-Some-clause-bounded
returns-in-Some-clause-bounded c =
    gives-bounded command_read _ c.read_named.result c.read_named.ensures (bounded _)
