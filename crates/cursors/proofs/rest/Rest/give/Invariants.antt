use Rattle.std.proofs.Common.{drop}
use Rattle.cursors.proofs.rest.Rest.give.Given as goal

abbrev pub ghost-set : goal.ghost-set
ghost-set a = drop a.with.now a.self.now.value
