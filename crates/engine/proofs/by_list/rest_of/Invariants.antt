use Rattle.std.proofs.Common.{map}
use Rattle.projection.specs.Projection.{project}
use Rattle.engine.proofs.by_list.rest_of.Given as goal

abbrev pub ghost-of : goal.ghost-of
ghost-of a = map (project a.with.now.0.now) a.with.now.1.now
