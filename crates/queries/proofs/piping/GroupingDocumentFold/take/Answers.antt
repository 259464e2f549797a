use Rattle.std.proofs.Common.{[], ◌∷◌, ◌++◌, List, append_assoc, subst}
use Rattle.bson.specs.Tree.{Pairs}
use Rattle.aggregate.specs.Gathering.{HasGathered}
use Rattle.queries.proofs.piping.GroupingDocumentFold.take.Goals as goal

pub returns-clause-takes : goal.returns-clause-takes
returns-clause-takes c = λ start all h stages before begun.
    subst (λ (xs : List Pairs). HasGathered stages xs c.take.new.self) (append_assoc before all (c.args.document.now ∷ []))
    (c.in_ok-take.ensures stages (before ++ all) (h stages before begun))
