use Rattle.std.proofs.Common.{[], ◌++◌, List, Result, Ok, Vec, Global, subst, sym}
use Rattle.std.proofs.lemmas.List.{append-nil}
use Rattle.std.specs.List.{filter}
use Rattle.std.proofs.lemmas.Result.{err_from_is_err_and}
use Rattle.bson.specs.Tree.{Pairs}
use Rattle.aggregate.specs.Gathering.{HasGathered}
use Rattle.aggregate_model.specs.Taking.{takes}
use Rattle.pipelines.specs.View.{pipeline_of}
use Rattle.collections.proofs.ReadingLemmas.{asked_on, asked_refused}
use Rattle.path.specs.declared.refusal.Refusal.{Refusal}
use Rattle.asked_documents.specs.Asking.{IsAsked}
use Rattle.queries.specs.Folding.{Gathers}
use Rattle.walks.specs.IdRange.{IsWalked}
use Rattle.queries.specs.Piping.{Pipes}
use Rattle.queries.specs.declared.piping.Grouping.{Grouping}
use Rattle.queries.proofs.PipingLemmas.{given_within, pipes_within}
use Rattle.queries.proofs.piping.grouped_scanned.Goals as goal

pub fold_asked-requires : goal.fold_asked-requires
fold_asked-requires g c = λ stages before h.
    subst (λ (xs : List Pairs). HasGathered stages xs c.args.gathering) (sym (append-nil before)) h

pub returns-in_err-walked-clause-reads : goal.returns-in_err-walked-clause-reads
returns-in_err-walked-clause-reads g c =
    let stages = pipeline_of c.args.pipeline.now in
    let start : Grouping = record { alloc = c.args.alloc; gathering = c.args.gathering } in
    let e = err_from_is_err_and c.from_residual.result c.from_residual.ensures.1 in
    rw (e.1, e.2)
    (asked_refused g.D.Disk.history (IsAsked c.args.home.now) (λ now of (given : Result (Vec Pairs Global) Refusal). Pipes stages given of.documents)
    c.args.file.now c.fold_asked.new.file (λ now of done. IsWalked (takes stages) Gathers start of.documents done)
    c.in_err-walked.field-0.0 c.in_err-walked.ensures.reads)

pub returns-clause-reads : goal.returns-clause-reads
returns-clause-reads g c =
    let stages = pipeline_of c.args.pipeline.now in
    let start : Grouping = record { alloc = c.args.alloc; gathering = c.args.gathering } in
    let given = c.into_documents.result in
    asked_on g.D.Disk.history (IsAsked c.args.home.now) (λ now of (given : Result (Vec Pairs Global) Refusal). Pipes stages given of.documents)
    c.args.file.now c.fold_asked.new.file (λ now of done. IsWalked (takes stages) Gathers start of.documents done)
    c.in_ok-walked.walked (Ok given) c.in_ok-walked.ensures.reads
    (λ now of asked all.
    pipes_within stages given of.documents all.chosen all.same
    (c.into_documents.ensures.runs stages (filter all.chosen of.documents) (all.folded.made stages [] c.requires)))

pub returns-clause-within : goal.returns-clause-within
returns-clause-within g c = given_within c.into_documents.result c.into_documents.ensures.within
