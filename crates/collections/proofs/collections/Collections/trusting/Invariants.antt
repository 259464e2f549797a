use Rattle.collections.proofs.collections.Collections.trusting.Given as goal

abbrev pub ghost-trusting : goal.ghost-trusting
ghost-trusting g a = g.trusted
