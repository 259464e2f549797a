use Rattle.command_model.specs.Insert.{documents_at}
use Rattle.database_model.specs.Insert.{inserted}
use Rattle.engine.specs.Writing.{planned_or}
use Rattle.engine.proofs.engine.Engine.store.Given as goal

abbrev pub ghost-write : goal.ghost-write
ghost-write g a = let now = a.self.now.told.value.now in planned_or now (inserted now a.with.now.0.now (documents_at a.with.now.1.now))
