use Rattle.std.proofs.Common.{Ok, Err, Vec, Global}
use Rattle.std.specs.List.{filter}
use Rattle.std.proofs.lemmas.Result.{err_from_is_err_and}
use Rattle.bson.specs.Tree.{Pairs}
use Rattle.aggregate_model.specs.Taking.{takes}
use Rattle.pipelines.specs.View.{pipeline_of}
use Rattle.collections.proofs.ReadingLemmas.{asked_on, asked_refused}
use Rattle.database_model.specs.Aggregate.{AreEnough}
use Rattle.index.specs.View.{texts_of}
use Rattle.asked_documents.specs.ById.{AreIdsOf}
use Rattle.queries.specs.Folding.{Needs}
use Rattle.walks.specs.IdRange.{IsWalked}
use Rattle.queries.specs.declared.needed.Needing.{Needing}
use Rattle.queries.proofs.NeededLemmas.{all_needed, are_within, enough_needed, enough_within, needed_of_within, none_needed}
use Rattle.queries.proofs.needed.needed_by_ids.Goals as goal

pub fold_by_ids-requires : goal.fold_by_ids-requires
fold_by_ids-requires g c =
    let start : Needing = record
    { alloc = c.args.alloc; pipeline = c.args.pipeline; needed = c.new.result; room = 1024; is_enough = c.are_enough.result } in
    none_needed start c.new.ensures.items c.are_enough.ensures

pub returns-in_err-walked-clause-reads : goal.returns-in_err-walked-clause-reads
returns-in_err-walked-clause-reads g c =
    let stages = pipeline_of c.args.pipeline.now in
    let start : Needing = record
    { alloc = c.args.alloc; pipeline = c.args.pipeline; needed = c.new.result; room = 1024; is_enough = c.are_enough.result } in
    let e = err_from_is_err_and c.from_residual.result c.from_residual.ensures.1 in
    rw (e.1, e.2)
    (asked_refused g.D.Disk.history (AreIdsOf c.args.number (takes stages) (texts_of c.args.ids.now))
    (λ now of (few : Vec Pairs Global). AreEnough stages few.items of.documents)
    c.args.file.now c.fold_by_ids.new.file (λ now of done. IsWalked (takes stages) Needs start of.documents done)
    c.in_err-walked.field-0.0 (c.in_err-walked.ensures.reads (takes stages)))

pub returns-then-walked-clause-reads : goal.returns-then-walked-clause-reads
returns-then-walked-clause-reads g c =
    let stages = pipeline_of c.args.pipeline.now in
    let start : Needing = record
    { alloc = c.args.alloc; pipeline = c.args.pipeline; needed = c.new.result; room = 1024; is_enough = c.are_enough.result } in
    let walked : Needing = c.in_ok-walked.walked in
    asked_on g.D.Disk.history (AreIdsOf c.args.number (takes stages) (texts_of c.args.ids.now))
    (λ now of (few : Vec Pairs Global). AreEnough stages few.items of.documents)
    c.args.file.now c.fold_by_ids.new.file (λ now of done. IsWalked (takes stages) Needs start of.documents done)
    walked (Ok walked.needed) (c.in_ok-walked.ensures.reads (takes stages))
    (λ now of asked all.
    enough_within stages walked.needed.items all.chosen of.documents all.same
    (enough_needed start walked (filter all.chosen of.documents) all.folded.made c.new.ensures.items c.if-walked.true))

pub returns-then-walked-clause-within : goal.returns-then-walked-clause-within
returns-then-walked-clause-within g c =
    let start : Needing = record
    { alloc = c.args.alloc; pipeline = c.args.pipeline; needed = c.new.result; room = 1024; is_enough = c.are_enough.result } in
    let walked : Needing = c.in_ok-walked.walked in
    let taken = c.in_ok-walked.ensures.taken in
    are_within (pipeline_of c.args.pipeline.now) walked.needed.items walked.needed.items (λ seen h. h)
    (needed_of_within start walked taken.documents taken.made c.new.ensures.items)

pub returns-in_err-only_needed-clause-reads : goal.returns-in_err-only_needed-clause-reads
returns-in_err-only_needed-clause-reads g c =
    let stages = pipeline_of c.args.pipeline.now in
    let start : Needing = record
    { alloc = c.args.alloc; pipeline = c.args.pipeline; needed = c.new.result; room = 1024; is_enough = c.are_enough.result } in
    let e = err_from_is_err_and c.from_residual-in_err-only_needed.result c.from_residual-in_err-only_needed.ensures.1 in
    rw e.1
    (asked_on g.D.Disk.history (AreIdsOf c.args.number (takes stages) (texts_of c.args.ids.now))
    (λ now of (few : Vec Pairs Global). AreEnough stages few.items of.documents)
    c.args.file.now c.fold_by_ids.new.file (λ now of done. IsWalked (takes stages) Needs start of.documents done) c.in_ok-walked.walked (Err e.0)
    (c.in_ok-walked.ensures.reads (takes stages)) (λ now of asked walked. e.2))

pub returns-clause-reads : goal.returns-clause-reads
returns-clause-reads g c =
    let stages = pipeline_of c.args.pipeline.now in
    let start : Needing = record
    { alloc = c.args.alloc; pipeline = c.args.pipeline; needed = c.new.result; room = 1024; is_enough = c.are_enough.result } in
    let walked : Needing = c.in_ok-walked.walked in
    let last = c.in_ok-only_needed.field-0 in
    asked_on g.D.Disk.history (AreIdsOf c.args.number (takes stages) (texts_of c.args.ids.now))
    (λ now of (few : Vec Pairs Global). AreEnough stages few.items of.documents)
    c.args.file.now c.fold_by_ids.new.file (λ now of done. IsWalked (takes stages) Needs start of.documents done) walked (Ok last)
    (c.in_ok-walked.ensures.reads (takes stages))
    (λ now of asked all.
    enough_within stages last.items all.chosen of.documents all.same
    (all_needed start walked (filter all.chosen of.documents) all.folded.made c.new.ensures.items last.items c.if-walked.false
    c.in_ok-only_needed.ensures))

pub returns-clause-within : goal.returns-clause-within
returns-clause-within g c =
    let start : Needing = record
    { alloc = c.args.alloc; pipeline = c.args.pipeline; needed = c.new.result; room = 1024; is_enough = c.are_enough.result } in
    let walked : Needing = c.in_ok-walked.walked in
    let taken = c.in_ok-walked.ensures.taken in
    are_within (pipeline_of c.args.pipeline.now) walked.needed.items c.in_ok-only_needed.field-0.items c.in_ok-only_needed.ensures
    (needed_of_within start walked taken.documents taken.made c.new.ensures.items)
