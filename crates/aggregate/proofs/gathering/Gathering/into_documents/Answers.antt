use Rattle.std.proofs.Common.{◌≡◌, Some, None, Option, Result, Err, List, ap, sym, subst, map, ◌∙◌}
use Rattle.bson.specs.Tree.{Pairs}
use Rattle.outcome.specs.Outcome.{Gives}
use Rattle.path.specs.declared.refusal.Refusal.{Refusal}
use Rattle.path.specs.declared.refusal.Refusal.TheVariants as refusals
use Rattle.aggregate.specs.Gathering.{after_groups}
use Rattle.pipelines.specs.GroupView.{grouping_of}
use Rattle.aggregate.specs.Groups.{entries_of}
use Rattle.aggregate_model.specs.Pipeline.{run}
use Rattle.pipelines.specs.View.{stage_of}
use Rattle.aggregate.proofs.GatheringLemmas.{finished_fine, finished_refused, gives_within}
use Rattle.aggregate.proofs.gathering.Gathering.into_documents.Goals as goal

pub returns-in-Some-clause-runs : goal.returns-in-Some-clause-runs
returns-in-Some-clause-runs c = λ stages all h fine other. finished_refused stages c.args.self all h c.args.limit fine c.in-Some.refusal c.in-Some.is

pub returns-in-None-clause-runs : goal.returns-in-None-clause-runs
returns-in-None-clause-runs c = λ stages all h fine.
    subst (λ (r : Result (List Pairs) Refusal). Gives refusals.OutOfMemory (λ v. v.items) c.after_groups.result r)
    (finished_fine stages c.args.self all h c.args.limit fine c.in-None.is) c.after_groups.ensures

pub returns-in-None-clause-within : goal.returns-in-None-clause-within
returns-in-None-clause-within c =
    gives_within (grouping_of c.args.self.grouping.now) (entries_of c.args.self.groups) (map stage_of c.args.self.behind.now) c.args.limit
    c.after_groups.result c.after_groups.ensures
