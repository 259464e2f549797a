use Rattle.shell.proofs.importing.Work.take_lines.Given as goal

abbrev pub invariant-lines : goal.invariant-lines
invariant-lines g l = g.D.Database.is_sound l.database
