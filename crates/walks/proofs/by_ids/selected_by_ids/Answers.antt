use Rattle.std.proofs.Common.{◌≡◌, Vec, Global, take, ap, ◌∙◌}
use Rattle.std.specs.List.{filter}
use Rattle.std.proofs.lemmas.Result.{err_from_is_err_and}
use Rattle.bson.specs.Tree.{Pairs}
use Rattle.collections.specs.Folding.{HasTaken}
use Rattle.index.specs.View.{texts_of}
use Rattle.asked_documents.specs.ById.{AreIdsOf}
use Rattle.walks.specs.Scanning.{Selected}
use Rattle.walks.specs.IdRange.{IsWalked}
use Rattle.walks.specs.declared.scanning.Selecting.{Selecting}
use Rattle.asked_documents.proofs.ReadingLemmas.{reads_made, reads_refused}
use Rattle.walks.proofs.SelectLemmas.{lent_selected, lent_within, none_selected}
use Rattle.walks.proofs.by_ids.selected_by_ids.Goals as goal

pub fold_by_ids-requires : goal.fold_by_ids-requires
fold_by_ids-requires g c =
    let start : Selecting g.row.S.Denot = record { alloc = c.args.alloc; which = c.args.which; most = c.args.most; found = c.new.result } in
    none_selected g.S.DocumentPredicate.selects start c.new.ensures.items

pub returns-in_err-fold_by_ids-clause-reads : goal.returns-in_err-fold_by_ids-clause-reads
returns-in_err-fold_by_ids-clause-reads g c =
    let p = g.S.DocumentPredicate.selects c.args.which.now in
    let start : Selecting g.row.S.Denot = record { alloc = c.args.alloc; which = c.args.which; most = c.args.most; found = c.new.result } in
    let e = err_from_is_err_and c.from_residual.result c.from_residual.ensures.1 in
    rw (e.1, e.2)
    (reads_refused g.D.Disk.history (AreIdsOf c.args.number p (texts_of c.args.ids.now))
    (λ now of done. IsWalked p (Selected g.S.DocumentPredicate.selects) start of.documents done)
    (λ now of (found : Vec Pairs Global). found.items ≡ take c.args.most (filter p of.documents))
    c.args.file.now c.fold_by_ids.new.file c.in_err-fold_by_ids.field-0.0 (c.in_err-fold_by_ids.ensures.reads p))

pub returns-clause-reads : goal.returns-clause-reads
returns-clause-reads g c =
    let p = g.S.DocumentPredicate.selects c.args.which.now in
    let start : Selecting g.row.S.Denot = record { alloc = c.args.alloc; which = c.args.which; most = c.args.most; found = c.new.result } in
    let done : Selecting g.row.S.Denot = c.in_ok-fold_by_ids.field-0 in
    reads_made g.D.Disk.history (AreIdsOf c.args.number p (texts_of c.args.ids.now))
    (λ now of done. IsWalked p (Selected g.S.DocumentPredicate.selects) start of.documents done)
    (λ now of (found : Vec Pairs Global). found.items ≡ take c.args.most (filter p of.documents))
    c.args.file.now c.fold_by_ids.new.file done done.found (c.in_ok-fold_by_ids.ensures.reads p)
    (λ now of asked walked. lent_selected g.S.DocumentPredicate.selects start done (filter walked.chosen of.documents) walked.folded.made c.new.ensures.items
    ∙ ap (take c.args.most) walked.same)

pub returns-clause-within : goal.returns-clause-within
returns-clause-within g c =
    let start : Selecting g.row.S.Denot = record { alloc = c.args.alloc; which = c.args.which; most = c.args.most; found = c.new.result } in
    let done : Selecting g.row.S.Denot = c.in_ok-fold_by_ids.field-0 in
    let taken : HasTaken (Selected g.S.DocumentPredicate.selects) start done = c.in_ok-fold_by_ids.ensures.taken in
    lent_within g.S.DocumentPredicate.selects start done taken.documents taken.made c.new.ensures.items
