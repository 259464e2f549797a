use Rattle.shell.proofs.asking.Session.ask_command.Given as goal

abbrev pub invariant-batches : goal.invariant-batches
invariant-batches g l = g.D.Database.is_sound l.database
