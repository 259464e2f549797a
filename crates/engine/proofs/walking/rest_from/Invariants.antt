use Rattle.std.proofs.Common.{◌-◌}
use Rattle.database_model.specs.World.{documents_of}
use Rattle.walks.specs.Batches.{walk_rest}
use Rattle.engine.proofs.walking.rest_from.Given as goal

abbrev pub ghost-of : goal.ghost-of
ghost-of a =
    let q = a.with.now.2.now in
    walk_rest q.filter q.projection 0 (q.limit - a.with.now.3) a.with.now.4.now.items (documents_of a.with.now.0.now.value.now a.with.now.1.now)
