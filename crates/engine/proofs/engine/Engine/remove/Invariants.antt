use Rattle.engine.specs.Removing.{deleted}
use Rattle.engine.proofs.engine.Engine.remove.Given as goal

abbrev pub ghost-write : goal.ghost-write
ghost-write g a = deleted a.self.now.told.value.now a.with.now.0.now a.with.now.1.now
