use Rattle.database_model.specs.CreateIndexes.{indexed}
use Rattle.engine.specs.Writing.{planned_or}
use Rattle.engine.proofs.engine.Engine.put_planned.Given as goal

abbrev pub ghost-write : goal.ghost-write
ghost-write g a = let now = a.self.now.told.value.now in planned_or now (indexed now a.with.now.0.now a.with.now.1.now)
