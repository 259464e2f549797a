use Rattle.std.proofs.Common.{◌≡◌, ℕ, List, Option, Some, None, Vec, Global, take, subst, sym}
use Rattle.std.specs.Prelude.{IfSome}
use Rattle.std.specs.List.{filter}
use Rattle.std.proofs.lemmas.Result.{err_from_is_err_and}
use Rattle.bson.specs.Tree.{Pairs}
use Rattle.index.specs.View.{texts_of}
use Rattle.asked_documents.specs.Asking.{IsAsked}
use Rattle.asked_documents.specs.ById.{AreIdsOf}
use Rattle.asked_documents.proofs.ReadingLemmas.{reads_behind, reads_made, reads_refused}
use Rattle.queries.proofs.looking_up.looked_up_in.Goals as goal

pub returns-in_err-ids-clause-reads : goal.returns-in_err-ids-clause-reads
returns-in_err-ids-clause-reads g c =
    let home = c.args.home.now in
    let p = g.S.DocumentPredicate.selects c.args.which.now in
    let e = err_from_is_err_and c.from_residual.result c.from_residual.ensures.1 in
    rw (e.1, e.2)
    (reads_refused g.D.Disk.history (IsAsked home)
    (λ now of (o : Option (Vec (Vec ℕ Global) Global)). IfSome o (λ ids. AreIdsOf home.number p (texts_of ids.items) now of))
    (λ now of (o : Option (Vec Pairs Global)). IfSome o (λ found. found.items ≡ take c.args.most (filter p of.documents)))
    c.args.file.now c.asked_ids.new.file c.in_err-ids.field-0.0 c.in_err-ids.ensures)

pub returns-in_err-found-in-Some-clause-reads : goal.returns-in_err-found-in-Some-clause-reads
returns-in_err-found-in-Some-clause-reads g c =
    let home = c.args.home.now in
    let p = g.S.DocumentPredicate.selects c.args.which.now in
    let ids : List (List ℕ) = texts_of c.deref.result.now in
    let e = err_from_is_err_and c.from_residual-in_err-found-in-Some.result c.from_residual-in_err-found-in-Some.ensures.1 in
    rw (e.1, e.2)
    (reads_refused g.D.Disk.history (IsAsked home) (λ now of (found : Vec Pairs Global). found.items ≡ take c.args.most (filter p of.documents))
    (λ now of (o : Option (Vec Pairs Global)). IfSome o (λ found. found.items ≡ take c.args.most (filter p of.documents)))
    c.args.file.now c.selected_by_ids.new.file c.in_err-found-in-Some.field-0.0
    (reads_behind g.D.Disk.history (IsAsked home)
    (λ now of (o : Option (Vec (Vec ℕ Global) Global)). IfSome o (λ ids. AreIdsOf home.number p (texts_of ids.items) now of))
    (AreIdsOf home.number p ids) (λ now of (found : Vec Pairs Global). found.items ≡ take c.args.most (filter p of.documents))
    (λ now of (found : Vec Pairs Global). found.items ≡ take c.args.most (filter p of.documents))
    c.args.file.now c.asked_ids.new.file c.selected_by_ids.new.file c.in_ok-ids.field-0 _ c.in_ok-ids.ensures c.in_err-found-in-Some.ensures.reads
    (λ now of asked told. record {
      other = of;
      was = subst (λ ts. AreIdsOf home.number p (texts_of ts) now of) (sym c.deref.ensures.value)
          (subst (λ (o : Option (Vec (Vec ℕ Global) Global)). IfSome o (λ ids. AreIdsOf home.number p (texts_of ids.items) now of)) c.in-Some.is told);
      right = λ found right. right;
    })))

pub returns-in_ok-found-in-Some-clause-reads : goal.returns-in_ok-found-in-Some-clause-reads
returns-in_ok-found-in-Some-clause-reads g c =
    let home = c.args.home.now in
    let p = g.S.DocumentPredicate.selects c.args.which.now in
    let ids : List (List ℕ) = texts_of c.deref.result.now in
    reads_made g.D.Disk.history (IsAsked home) (λ now of (found : Vec Pairs Global). found.items ≡ take c.args.most (filter p of.documents))
    (λ now of (o : Option (Vec Pairs Global)). IfSome o (λ found. found.items ≡ take c.args.most (filter p of.documents)))
    c.args.file.now c.selected_by_ids.new.file c.in_ok-found-in-Some.found (Some c.in_ok-found-in-Some.found)
    (reads_behind g.D.Disk.history (IsAsked home)
    (λ now of (o : Option (Vec (Vec ℕ Global) Global)). IfSome o (λ ids. AreIdsOf home.number p (texts_of ids.items) now of))
    (AreIdsOf home.number p ids) (λ now of (found : Vec Pairs Global). found.items ≡ take c.args.most (filter p of.documents))
    (λ now of (found : Vec Pairs Global). found.items ≡ take c.args.most (filter p of.documents))
    c.args.file.now c.asked_ids.new.file c.selected_by_ids.new.file c.in_ok-ids.field-0 _ c.in_ok-ids.ensures c.in_ok-found-in-Some.ensures.reads
    (λ now of asked told. record {
      other = of;
      was = subst (λ ts. AreIdsOf home.number p (texts_of ts) now of) (sym c.deref.ensures.value)
          (subst (λ (o : Option (Vec (Vec ℕ Global) Global)). IfSome o (λ ids. AreIdsOf home.number p (texts_of ids.items) now of)) c.in-Some.is told);
      right = λ found right. right;
    }))
    (λ now of asked right. right)

pub returns-in-None-clause-reads : goal.returns-in-None-clause-reads
returns-in-None-clause-reads g c =
    let home = c.args.home.now in
    let p = g.S.DocumentPredicate.selects c.args.which.now in
    reads_made g.D.Disk.history (IsAsked home)
    (λ now of (o : Option (Vec (Vec ℕ Global) Global)). IfSome o (λ ids. AreIdsOf home.number p (texts_of ids.items) now of))
    (λ now of (o : Option (Vec Pairs Global)). IfSome o (λ found. found.items ≡ take c.args.most (filter p of.documents)))
    c.args.file.now c.asked_ids.new.file c.in_ok-ids.field-0 None c.in_ok-ids.ensures (λ now of asked told. tt)
