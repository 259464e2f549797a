use Rattle.database_model.specs.Create.{created}
use Rattle.engine.specs.Writing.{planned_or}
use Rattle.engine.proofs.engine.Engine.make_collection.Given as goal

abbrev pub ghost-write : goal.ghost-write
ghost-write g a = let now = a.self.now.told.value.now in planned_or now (created now a.with.now.now)
