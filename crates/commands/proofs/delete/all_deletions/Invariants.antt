use Rattle.command_model.specs.Values.{spelled_in}
use Rattle.command_model.specs.Delete.{read_deletion}
use Rattle.commands.proofs.Readings.{Read}
use Rattle.commands.proofs.delete.all_deletions.Given as goal

abbrev pub invariant-items : goal.invariant-items
invariant-items l = Read (spelled_in read_deletion) l.items l.item-index l.deletions.items
