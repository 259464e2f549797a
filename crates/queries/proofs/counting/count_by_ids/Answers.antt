use Rattle.std.proofs.Common.{◌≡◌, ℕ, Ok, length, refl, ap, ◌∙◌, arith}
use Rattle.std.specs.List.{filter}
use Rattle.std.proofs.lemmas.Result.{err_from_is_err_and}
use Rattle.collections.proofs.ReadingLemmas.{asked_on, asked_refused}
use Rattle.database_model.specs.Find.{matching}
use Rattle.filter.specs.Matches.{matches}
use Rattle.index.specs.View.{texts_of}
use Rattle.asked_documents.specs.ById.{AreIdsOf}
use Rattle.queries.specs.Folding.{Counts}
use Rattle.walks.specs.IdRange.{IsWalked}
use Rattle.queries.specs.declared.counting.Counting.{Counting}
use Rattle.queries.proofs.CountLemmas.{all_counted}
use Rattle.queries.proofs.counting.count_by_ids.Goals as goal

pub fold_by_ids-requires : goal.fold_by_ids-requires
fold_by_ids-requires g c = record { filter = refl; count = omega arith }

pub returns-in_err-fold_by_ids : goal.returns-in_err-fold_by_ids
returns-in_err-fold_by_ids g c =
    let start : Counting = record { alloc = c.args.alloc; filter = c.args.filter; count = 0 } in
    let e = err_from_is_err_and c.from_residual.result c.from_residual.ensures.1 in
    rw (e.1, e.2)
    (asked_refused g.D.Disk.history (AreIdsOf c.args.number (matches c.args.filter.now) (texts_of c.args.ids.now))
    (λ now of (count : ℕ). count ≡ length (matching c.args.filter.now of.documents)) c.args.file.now c.fold_by_ids.new.file
    (λ now of done. IsWalked (matches c.args.filter.now) Counts start of.documents done) c.in_err-fold_by_ids.field-0.0
    (c.in_err-fold_by_ids.ensures.reads (matches c.args.filter.now)))

pub returns : goal.returns
returns g c =
    let start : Counting = record { alloc = c.args.alloc; filter = c.args.filter; count = 0 } in
    let done = c.in_ok-fold_by_ids.field-0 in
    asked_on g.D.Disk.history (AreIdsOf c.args.number (matches c.args.filter.now) (texts_of c.args.ids.now))
    (λ now of (count : ℕ). count ≡ length (matching c.args.filter.now of.documents)) c.args.file.now c.fold_by_ids.new.file
    (λ now of done. IsWalked (matches c.args.filter.now) Counts start of.documents done) done (Ok done.count)
    (c.in_ok-fold_by_ids.ensures.reads (matches c.args.filter.now))
    (λ now of asked walked.
    all_counted start done (filter walked.chosen of.documents) refl walked.folded.few walked.folded.made ∙ ap length walked.same)
