use Rattle.command_model.specs.Values.{spelled_in}
use Rattle.command_model.specs.Update.{read_statement}
use Rattle.commands.proofs.Readings.{Read}
use Rattle.commands.proofs.updates.all_statements.Given as goal

abbrev pub invariant-items : goal.invariant-items
invariant-items l = Read (spelled_in read_statement) l.items l.item-index l.statements.items
