use Rattle.opening.proofs.ghost_state.GhostState.change.Given as goal

abbrev pub ghost-set : goal.ghost-set
ghost-set g a = record { start = a.self.now.value.start; now = g.after }
