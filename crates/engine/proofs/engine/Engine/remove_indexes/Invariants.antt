use Rattle.commands.specs.View.{dropped_of}
use Rattle.database_model.specs.DropIndexes.{index_dropped}
use Rattle.engine.specs.Writing.{planned_or}
use Rattle.engine.proofs.engine.Engine.remove_indexes.Given as goal

abbrev pub ghost-write : goal.ghost-write
ghost-write g a = let now = a.self.now.told.value.now in planned_or now (index_dropped now a.with.now.0.now (dropped_of a.with.now.1.now))
