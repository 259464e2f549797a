use Rattle.std.proofs.Common.{◌++◌, List, append_assoc, subst}
use Rattle.bson.specs.Tree.{Pairs}
use Rattle.aggregate.specs.Gathering.{HasGathered}
use Rattle.queries.proofs.piping.GroupingDocumentFold.is_done.Goals as goal

pub returns : goal.returns
returns c = λ done start all more h stages before begun.
    subst (λ (xs : List Pairs). HasGathered stages xs c.args.self.now.gathering) (append_assoc before all more)
    (c.is_refused.ensures done stages (before ++ all) more (h stages before begun))
