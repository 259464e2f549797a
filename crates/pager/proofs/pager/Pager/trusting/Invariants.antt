use Rattle.pager.proofs.pager.Pager.trusting.Given as goal

abbrev pub ghost-trusting : goal.ghost-trusting
ghost-trusting g a = g.trusted
