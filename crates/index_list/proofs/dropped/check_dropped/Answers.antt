use Rattle.std.proofs.Common.{ap}
use Rattle.commands.specs.View.{dropped_of}
use Rattle.index_list.proofs.DroppedIndexLemmas.{left_all}
use Rattle.index_list.proofs.dropped.check_dropped.Goals as goal

pub returns-in-All-clause-may : goal.returns-in-All-clause-may
returns-in-All-clause-may c = left_all (dropped_of c.args.dropped.now) c.args.indexes.now (ap dropped_of c.in-All.is)
