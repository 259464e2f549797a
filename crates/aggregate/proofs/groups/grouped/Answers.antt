use Rattle.std.proofs.Common.{subst}
use Rattle.outcome.specs.Outcome.{Gives}
use Rattle.path.specs.declared.refusal.Refusal.TheVariants as refusals
use Rattle.pipelines.specs.GroupView.{grouping_of}
use Rattle.aggregate.proofs.GroupLemmas.{grouped_is}
use Rattle.aggregate.proofs.groups.grouped.Goals as goal

pub returns : goal.returns
returns c =
    subst (λ planned. Gives refusals.OutOfMemory (λ v. v.items) c.grouped_from.result planned)
    (grouped_is (grouping_of c.args.grouping.now) c.args.documents.now) c.grouped_from.ensures
