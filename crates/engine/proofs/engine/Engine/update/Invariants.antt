use Rattle.database_model.specs.UpdateCommand.{updated}
use Rattle.engine.specs.Writing.{planned_or}
use Rattle.engine.proofs.engine.Engine.update.Given as goal

abbrev pub ghost-write : goal.ghost-write
ghost-write g a = let now = a.self.now.told.value.now in planned_or now (updated a.with.now.0.now a.with.now.1.now now)
