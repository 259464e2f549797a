use Rattle.std.proofs.Common.{◌≡◌, List, ℕ, Bool, Option, Ok, Err, Vec, Global, take, subst}
use Rattle.std.specs.Prelude.{IfSome}
use Rattle.std.specs.List.{filter}
use Rattle.std.proofs.lemmas.Result.{err_from_is_err_and}
use Rattle.bson.specs.Tree.{Pairs}
use Rattle.filter.specs.Matches.{matches}
use Rattle.index.specs.View.{texts_of}
use Rattle.asked_documents.specs.ById.{AreIdsOf, AreIdsOfAsked}
use Rattle.queries.specs.LookedUp.{IsLookedUp}
use Rattle.walks.specs.Batches.{IsWholeBatch}
use Rattle.walks.specs.declared.batches.GivenBatch.{GivenBatch}
use Rattle.queries.specs.declared.looked_up.LookedUp.{LookedUp}
use Rattle.queries.specs.declared.looked_up.LookedUp.TheVariants as ways
use Rattle.queries.proofs.LookedUpLemmas.{found_asked}
use Rattle.asked_documents.proofs.ReadingLemmas.{reads_behind, reads_made, reads_refused}
use Rattle.queries.proofs.looked_up.looked_up_by_ids.Goals as goal

abbrev Found : List Pairs → (Pairs → Bool) → ℕ → Vec Pairs Global → Type 0
Found ds passes most found = found.items ≡ take most (filter passes ds)

pub returns-in_err-found-clause-reads : goal.returns-in_err-found-clause-reads
returns-in_err-found-clause-reads g c =
    let w = c.args.walk.now in
    let p = matches w.filter.now in
    let texts : List (List ℕ) = texts_of c.args.ids.now in
    let e = err_from_is_err_and c.from_residual.result c.from_residual.ensures.1 in
    rw (e.1, e.2)
    (reads_refused g.D.Disk.history (AreIdsOfAsked c.args.home.now p texts) (λ now of (found : Vec Pairs Global). Found of.documents p c.args.most found)
    (λ now of (found : LookedUp). IsLookedUp w c.args.asked.now c.args.most of.documents found) c.args.file.now c.selected_by_ids.new.file
    c.in_err-found.field-0.0
    (found_asked g.D.Disk.history c.args.home.now p texts (λ ds found. Found ds p c.args.most found) c.args.file.now c.selected_by_ids.new.file
    (Err c.in_err-found.field-0.0) c.in_err-found.ensures.reads))

pub returns-then-asked-ids-clause-reads : goal.returns-then-asked-ids-clause-reads
returns-then-asked-ids-clause-reads g c =
    let w = c.args.walk.now in
    let p = matches w.filter.now in
    let texts : List (List ℕ) = texts_of c.args.ids.now in
    reads_made g.D.Disk.history (AreIdsOfAsked c.args.home.now p texts) (λ now of (found : Vec Pairs Global). Found of.documents p c.args.most found)
    (λ now of (found : LookedUp). IsLookedUp w c.args.asked.now c.args.most of.documents found) c.args.file.now c.selected_by_ids.new.file
    c.in_ok-found.found (ways.Documents c.in_ok-found.found)
    (found_asked g.D.Disk.history c.args.home.now p texts (λ ds found. Found ds p c.args.most found) c.args.file.now c.selected_by_ids.new.file
    (Ok c.in_ok-found.found) c.in_ok-found.ensures.reads) (λ now of asked right. right)

pub returns-in_err-batch-clause-reads : goal.returns-in_err-batch-clause-reads
returns-in_err-batch-clause-reads g c =
    let w = c.args.walk.now in
    let e = err_from_is_err_and c.from_residual-in_err-batch.result c.from_residual-in_err-batch.ensures.1 in
    rw (e.1, e.2)
    (reads_refused g.D.Disk.history (AreIdsOfAsked c.args.home.now (matches w.filter.now) (texts_of c.args.ids.now))
    (λ now of (o : Option GivenBatch). IfSome o (IsWholeBatch w c.args.asked.now of.documents))
    (λ now of (found : LookedUp). IsLookedUp w c.args.asked.now c.args.most of.documents found) c.args.file.now c.batch_by_ids.new.file
    c.in_err-batch.field-0.0 c.in_err-batch.ensures.reads)

pub returns-in-Some-clause-reads : goal.returns-in-Some-clause-reads
returns-in-Some-clause-reads g c =
    let w = c.args.walk.now in
    reads_made g.D.Disk.history (AreIdsOfAsked c.args.home.now (matches w.filter.now) (texts_of c.args.ids.now))
    (λ now of (o : Option GivenBatch). IfSome o (IsWholeBatch w c.args.asked.now of.documents))
    (λ now of (found : LookedUp). IsLookedUp w c.args.asked.now c.args.most of.documents found) c.args.file.now c.batch_by_ids.new.file
    c.in_ok-batch.batch (ways.Batch c.in-Some.batch) c.in_ok-batch.ensures.reads
    (λ now of asked some. subst (λ (o : Option GivenBatch). IfSome o (IsWholeBatch w c.args.asked.now of.documents)) c.in-Some.is some)

pub returns-in_err-found-2-clause-reads : goal.returns-in_err-found-2-clause-reads
returns-in_err-found-2-clause-reads g c =
    let w = c.args.walk.now in
    let p = matches w.filter.now in
    let texts : List (List ℕ) = texts_of c.args.ids.now in
    let e = err_from_is_err_and c.from_residual-in_err-found-2.result c.from_residual-in_err-found-2.ensures.1 in
    rw (e.1, e.2)
    (reads_refused g.D.Disk.history (AreIdsOfAsked c.args.home.now p texts) (λ now of (found : Vec Pairs Global). Found of.documents p c.args.most found)
    (λ now of (found : LookedUp). IsLookedUp w c.args.asked.now c.args.most of.documents found) c.args.file.now c.selected_by_ids-2.new.file
    c.in_err-found-2.field-0.0
    (reads_behind g.D.Disk.history (AreIdsOfAsked c.args.home.now p texts)
    (λ now of (o : Option GivenBatch). IfSome o (IsWholeBatch w c.args.asked.now of.documents))
    (AreIdsOf c.args.home.now.number p texts) (λ now of (found : Vec Pairs Global). Found of.documents p c.args.most found)
    (λ now of (found : Vec Pairs Global). Found of.documents p c.args.most found)
    c.args.file.now c.batch_by_ids.new.file c.selected_by_ids-2.new.file c.in_ok-batch.batch (Err c.in_err-found-2.field-0.0)
    c.in_ok-batch.ensures.reads c.in_err-found-2.ensures.reads (λ now of asked told. record { other = of; was = asked.ids; right = λ found right. right })))

pub returns-clause-reads : goal.returns-clause-reads
returns-clause-reads g c =
    let w = c.args.walk.now in
    let p = matches w.filter.now in
    let texts : List (List ℕ) = texts_of c.args.ids.now in
    reads_made g.D.Disk.history (AreIdsOfAsked c.args.home.now p texts) (λ now of (found : Vec Pairs Global). Found of.documents p c.args.most found)
    (λ now of (found : LookedUp). IsLookedUp w c.args.asked.now c.args.most of.documents found) c.args.file.now c.selected_by_ids-2.new.file
    c.in_ok-found-2.found (ways.Documents c.in_ok-found-2.found)
    (reads_behind g.D.Disk.history (AreIdsOfAsked c.args.home.now p texts)
    (λ now of (o : Option GivenBatch). IfSome o (IsWholeBatch w c.args.asked.now of.documents))
    (AreIdsOf c.args.home.now.number p texts) (λ now of (found : Vec Pairs Global). Found of.documents p c.args.most found)
    (λ now of (found : Vec Pairs Global). Found of.documents p c.args.most found)
    c.args.file.now c.batch_by_ids.new.file c.selected_by_ids-2.new.file c.in_ok-batch.batch (Ok c.in_ok-found-2.found)
    c.in_ok-batch.ensures.reads c.in_ok-found-2.ensures.reads (λ now of asked told. record { other = of; was = asked.ids; right = λ found right. right }))
    (λ now of asked right. right)
