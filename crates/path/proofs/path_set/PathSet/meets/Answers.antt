use Rattle.path.proofs.PathSetLemmas.{told_first, told_second}
use Rattle.path.proofs.path_set.PathSet.meets.Goals as goal

pub returns-then-goes_on : goal.returns-then-goes_on
returns-then-goes_on c = told_first c.args.path.now c.args.self.now c.goes_on.result c.goes_on.ensures c.if-goes_on.true

pub returns-else-goes_on : goal.returns-else-goes_on
returns-else-goes_on c =
    told_second c.args.path.now c.args.self.now c.goes_on.result c.goes_on.ensures c.if-goes_on.false c.leads_to.result c.leads_to.ensures
