use Rattle.database_model.specs.Find.{query_result}
use Rattle.database_model.specs.World.{documents_of}
use Rattle.engine.proofs.by_list.all_asked.Given as goal

abbrev pub ghost-of : goal.ghost-of
ghost-of a = query_result a.with.now.2.now (documents_of a.with.now.0.now.value.now a.with.now.1.now)
