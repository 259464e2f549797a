use Rattle.cursors.proofs.rest.Rest.of.Given as goal

abbrev pub ghost-any : goal.ghost-any
ghost-any g a = g.rest
