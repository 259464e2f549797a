use Rattle.std.proofs.Common.{◌≡◌, Ok, Vec, Global, ℕ, map, take, ap, ◌∙◌}
use Rattle.std.specs.List.{filter}
use Rattle.std.proofs.lemmas.Result.{err_from_is_err_and}
use Rattle.collections.proofs.ReadingLemmas.{asked_on, asked_refused}
use Rattle.database_model.specs.Find.{matching}
use Rattle.filter.specs.Matches.{matches}
use Rattle.index.specs.View.{texts_of}
use Rattle.sort.specs.Sort.{order}
use Rattle.asked_documents.specs.Asking.{IsAsked}
use Rattle.walks.specs.IdRange.{IsWalked}
use Rattle.walks.specs.Listed.{id_text_of}
use Rattle.queries.specs.SortedIds.{KeepsShort}
use Rattle.queries.specs.declared.sorted_ids.Shortening.{Shortening}
use Rattle.queries.proofs.SortedIdLemmas.{all_shortened}
use Rattle.queries.proofs.sorted_ids.walked_ids.Goals as goal

pub returns-in_err-kept : goal.returns-in_err-kept
returns-in_err-kept g c =
    let start : Shortening = record { alloc = c.args.alloc; filter = c.args.filter; sort = c.args.sort; most = c.args.most; found = c.new.result } in
    let e = err_from_is_err_and c.from_residual.result c.from_residual.ensures.1 in
    rw (e.1, e.2)
    (asked_refused g.D.Disk.history (IsAsked c.args.home.now)
    (λ now of (ids : Vec (Vec ℕ Global) Global). texts_of ids.items
    ≡ map id_text_of (take c.args.most (order c.args.sort.now (matching c.args.filter.now of.documents))))
    c.args.file.now c.fold_asked.new.file (λ now of done. IsWalked (matches c.args.filter.now) KeepsShort start of.documents done) c.in_err-kept.field-0.0
    c.in_err-kept.ensures.reads)

pub returns : goal.returns
returns g c =
    let start : Shortening = record { alloc = c.args.alloc; filter = c.args.filter; sort = c.args.sort; most = c.args.most; found = c.new.result } in
    let done : Shortening = c.in_ok-kept.kept in
    let ids = c.in_ok-first_ids.field-0 in
    asked_on g.D.Disk.history (IsAsked c.args.home.now)
    (λ now of (ids : Vec (Vec ℕ Global) Global). texts_of ids.items
    ≡ map id_text_of (take c.args.most (order c.args.sort.now (matching c.args.filter.now of.documents))))
    c.args.file.now c.fold_asked.new.file (λ now of done. IsWalked (matches c.args.filter.now) KeepsShort start of.documents done) done (Ok ids)
    c.in_ok-kept.ensures.reads
    (λ now of asked walked.
    c.in_ok-first_ids.ensures ∙ all_shortened start done (filter walked.chosen of.documents) c.new.ensures.items walked.folded.made
    ∙ ap (λ ds. map id_text_of (take c.args.most (order c.args.sort.now ds))) walked.same)
