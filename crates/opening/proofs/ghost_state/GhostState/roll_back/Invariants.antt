use Rattle.opening.proofs.ghost_state.GhostState.roll_back.Given as goal

abbrev pub ghost-set : goal.ghost-set
ghost-set a = record { start = a.self.now.value.start; now = a.self.now.value.start }
