use Rattle.cursors.proofs.rest.Rest.set.Given as goal

abbrev pub ghost-any : goal.ghost-any
ghost-any g a = g.to
