use Rattle.shell.proofs.exporting.export_from.Given as goal

abbrev pub invariant-batches : goal.invariant-batches
invariant-batches g l = g.D.Database.is_sound l.database
