use Rattle.std.proofs.Common.{Result, Vec, Global}
use Rattle.std.proofs.lemmas.Result.{err_from_is_err_and}
use Rattle.bson.specs.Tree.{Pairs}
use Rattle.pipelines.specs.View.{pipeline_of}
use Rattle.database_model.specs.Aggregate.{AreEnough}
use Rattle.path.specs.declared.refusal.Refusal.{Refusal}
use Rattle.asked_documents.specs.Asking.{IsAsked}
use Rattle.queries.specs.Piping.{Pipes}
use Rattle.queries.proofs.PipingLemmas.{enough_pipes}
use Rattle.asked_documents.proofs.ReadingLemmas.{reads_made, reads_refused}
use Rattle.queries.proofs.piping.piped_needed.Goals as goal

pub returns-in_err-few-clause-reads : goal.returns-in_err-few-clause-reads
returns-in_err-few-clause-reads g c =
    let stages = pipeline_of c.args.pipeline.now in
    let e = err_from_is_err_and c.from_residual.result c.from_residual.ensures.1 in
    rw (e.1, e.2)
    (reads_refused g.D.Disk.history (IsAsked c.args.home.now) (λ now of (few : Vec Pairs Global). AreEnough stages few.items of.documents)
    (λ now of (given : Result (Vec Pairs Global) Refusal). Pipes stages given of.documents) c.args.file.now c.needed_in.new.file
    c.in_err-few.field-0.0 c.in_err-few.ensures.reads)

pub returns-clause-reads : goal.returns-clause-reads
returns-clause-reads g c =
    let stages = pipeline_of c.args.pipeline.now in
    let few : Vec Pairs Global = c.in_ok-few.few in
    reads_made g.D.Disk.history (IsAsked c.args.home.now) (λ now of (few : Vec Pairs Global). AreEnough stages few.items of.documents)
    (λ now of (given : Result (Vec Pairs Global) Refusal). Pipes stages given of.documents) c.args.file.now c.needed_in.new.file
    few c.piped.result c.in_ok-few.ensures.reads
    (λ now of asked enough. enough_pipes stages c.piped.result of.documents few.items c.in_ok-few.ensures.within enough c.piped.ensures.pipes)
