use Rattle.shell.proofs.asking.Session.ask_words.Given as goal

abbrev pub invariant-commands : goal.invariant-commands
invariant-commands g l = g.D.Database.is_sound l.database
