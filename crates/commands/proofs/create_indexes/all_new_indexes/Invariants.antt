use Rattle.command_model.specs.Values.{spelled_in}
use Rattle.command_model.specs.NewIndex.{read_new_index}
use Rattle.commands.proofs.Readings.{Read}
use Rattle.commands.proofs.create_indexes.all_new_indexes.Given as goal

abbrev pub invariant-items : goal.invariant-items
invariant-items l = Read (spelled_in read_new_index) l.items l.item-index l.indexes.items
