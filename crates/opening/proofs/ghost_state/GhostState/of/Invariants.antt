use Rattle.opening.proofs.ghost_state.GhostState.of.Given as goal

abbrev pub ghost-any : goal.ghost-any
ghost-any g a = g.known
