use Rattle.std.proofs.Common.{◌≡◌, Vec, Global, take, sym, subst, ◌∙◌}
use Rattle.std.specs.Prelude.{All}
use Rattle.std.specs.List.{filter}
use Rattle.std.proofs.lemmas.Result.{err_from_is_err_and}
use Rattle.bson.specs.Tree.{Pairs}
use Rattle.database_model.specs.Lawful.{IsWithin}
use Rattle.asked_documents.specs.Asking.{IsAsked}
use Rattle.asked_documents.proofs.ReadingLemmas.{reads_made, reads_memory, reads_refused}
use Rattle.queries.proofs.looking_up.selected_in.Goals as goal

pub returns-in_err-found-clause-reads : goal.returns-in_err-found-clause-reads
returns-in_err-found-clause-reads g c =
    let p = g.S.DocumentPredicate.selects c.args.which.now in
    let e = err_from_is_err_and c.from_residual.result c.from_residual.ensures.1 in
    rw (e.1, e.2)
    (reads_refused g.D.Disk.history (IsAsked c.args.home.now) (λ now of (found : Vec Pairs Global). found.items ≡ take c.args.most (filter p of.documents))
    (λ now of (found : Vec Pairs Global). found.items
    ≡ take c.args.most (filter p of.documents)) c.args.file.now c.spelled_in.new.file c.in_err-found.field-0.0 c.in_err-found.ensures.reads)

pub returns-in_err-shared_all-clause-reads : goal.returns-in_err-shared_all-clause-reads
returns-in_err-shared_all-clause-reads g c =
    let p = g.S.DocumentPredicate.selects c.args.which.now in
    let e = err_from_is_err_and c.from_residual-in_err-shared_all.result c.from_residual-in_err-shared_all.ensures.1 in
    rw e.1
    (reads_memory g.D.Disk.history (IsAsked c.args.home.now) (λ now of (found : Vec Pairs Global). found.items ≡ take c.args.most (filter p of.documents))
    (λ now of (found : Vec Pairs Global). found.items
    ≡ take c.args.most (filter p of.documents)) _ c.args.file.now c.spelled_in.new.file e.0 e.2 c.in_ok-found.ensures.reads)

pub returns-clause-reads : goal.returns-clause-reads
returns-clause-reads g c =
    let p = g.S.DocumentPredicate.selects c.args.which.now in
    reads_made g.D.Disk.history (IsAsked c.args.home.now) (λ now of (found : Vec Pairs Global). found.items ≡ take c.args.most (filter p of.documents))
    (λ now of (found : Vec Pairs Global). found.items ≡ take c.args.most (filter p of.documents)) c.args.file.now c.spelled_in.new.file c.in_ok-found.found
    c.in_ok-shared_all.field-0 c.in_ok-found.ensures.reads
    (λ now of asked is. c.in_ok-shared_all.ensures ∙ is)

pub returns-clause-within : goal.returns-clause-within
returns-clause-within g c = subst (All IsWithin) (sym c.in_ok-shared_all.ensures) c.in_ok-found.ensures.within
