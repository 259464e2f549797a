use Rattle.engine.proofs.engine.Engine.write.Given as goal

abbrev pub ghost-change : goal.ghost-change
ghost-change g a = g.after
