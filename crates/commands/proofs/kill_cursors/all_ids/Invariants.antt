use Rattle.command_model.specs.Values.{id_in}
use Rattle.commands.proofs.Readings.{Read}
use Rattle.commands.proofs.kill_cursors.all_ids.Given as goal

abbrev pub invariant-items : goal.invariant-items
invariant-items l = Read id_in l.items l.item-index l.ids.items
