use Rattle.std.proofs.Common.{◌≡◌, Ok, Vec, Global, take, ap, ◌∙◌}
use Rattle.std.specs.List.{filter}
use Rattle.std.proofs.lemmas.Result.{err_from_is_err_and}
use Rattle.bson.specs.Tree.{Pairs}
use Rattle.collections.proofs.ReadingLemmas.{asked_on, asked_refused}
use Rattle.asked_documents.specs.Asking.{IsAsked}
use Rattle.walks.specs.Scanning.{Selected}
use Rattle.walks.specs.IdRange.{IsWalked}
use Rattle.walks.specs.declared.scanning.Selecting.{Selecting}
use Rattle.walks.proofs.SelectLemmas.{lent_selected, lent_within, none_selected}
use Rattle.walks.proofs.scanning.scanned.Goals as goal

pub fold_asked-requires : goal.fold_asked-requires
fold_asked-requires g c =
    let start : Selecting g.row.S.Denot = record { alloc = c.args.alloc; which = c.args.which; most = c.args.most; found = c.new.result } in
    none_selected g.S.DocumentPredicate.selects start c.new.ensures.items

pub returns-in_err-fold_asked-clause-reads : goal.returns-in_err-fold_asked-clause-reads
returns-in_err-fold_asked-clause-reads g c =
    let p = g.S.DocumentPredicate.selects c.args.which.now in
    let start : Selecting g.row.S.Denot = record { alloc = c.args.alloc; which = c.args.which; most = c.args.most; found = c.new.result } in
    let e = err_from_is_err_and c.from_residual.result c.from_residual.ensures.1 in
    rw (e.1, e.2)
    (asked_refused g.D.Disk.history (IsAsked c.args.home.now)
    (λ now of (found : Vec Pairs Global). found.items ≡ take c.args.most (filter p of.documents)) c.args.file.now c.fold_asked.new.file
    (λ now of done. IsWalked p (Selected g.S.DocumentPredicate.selects) start of.documents done) c.in_err-fold_asked.field-0.0
    c.in_err-fold_asked.ensures.reads)

pub returns-clause-reads : goal.returns-clause-reads
returns-clause-reads g c =
    let p = g.S.DocumentPredicate.selects c.args.which.now in
    let start : Selecting g.row.S.Denot = record { alloc = c.args.alloc; which = c.args.which; most = c.args.most; found = c.new.result } in
    let done : Selecting g.row.S.Denot = c.in_ok-fold_asked.field-0 in
    asked_on g.D.Disk.history (IsAsked c.args.home.now)
    (λ now of (found : Vec Pairs Global). found.items ≡ take c.args.most (filter p of.documents)) c.args.file.now c.fold_asked.new.file
    (λ now of done. IsWalked p (Selected g.S.DocumentPredicate.selects) start of.documents done) done (Ok done.found) c.in_ok-fold_asked.ensures.reads
    (λ now of asked walked.
    lent_selected g.S.DocumentPredicate.selects start done (filter walked.chosen of.documents) walked.folded.made c.new.ensures.items
    ∙ ap (take c.args.most) walked.same)

pub returns-clause-within : goal.returns-clause-within
returns-clause-within g c =
    let start : Selecting g.row.S.Denot = record { alloc = c.args.alloc; which = c.args.which; most = c.args.most; found = c.new.result } in
    let taken = c.in_ok-fold_asked.ensures.taken in
    lent_within g.S.DocumentPredicate.selects start c.in_ok-fold_asked.field-0 taken.documents taken.made c.new.ensures.items
