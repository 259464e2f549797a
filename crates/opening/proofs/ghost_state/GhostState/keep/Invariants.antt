use Rattle.opening.proofs.ghost_state.GhostState.keep.Given as goal

abbrev pub ghost-set : goal.ghost-set
ghost-set a = record { start = a.self.now.value.now; now = a.self.now.value.now }
