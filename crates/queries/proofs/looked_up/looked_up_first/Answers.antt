use Rattle.std.proofs.Common.{List, ℕ, Option, Some, None, Ok, Err, Vec, Global, subst, sym}
use Rattle.std.specs.Prelude.{IfSome}
use Rattle.std.proofs.lemmas.Result.{err_from_is_err_and}
use Rattle.filter.specs.Matches.{matches}
use Rattle.index.specs.View.{texts_of}
use Rattle.asked_documents.specs.Asking.{IsAsked}
use Rattle.asked_documents.specs.ById.{AreIdsOf, AreIdsOfAsked}
use Rattle.queries.specs.LookedUp.{IsLookedUp}
use Rattle.queries.specs.declared.looked_up.LookedUp.{LookedUp}
use Rattle.asked_documents.proofs.ReadingLemmas.{reads_behind, reads_made, reads_refused}
use Rattle.queries.proofs.looked_up.looked_up_first.Goals as goal

pub returns-in_err-ids-clause-reads : goal.returns-in_err-ids-clause-reads
returns-in_err-ids-clause-reads g c =
    let w = c.args.walk.now in
    let home = c.args.home.now in
    let e = err_from_is_err_and c.from_residual.result c.from_residual.ensures.1 in
    rw (e.1, e.2)
    (reads_refused g.D.Disk.history (IsAsked home)
    (λ now of (o : Option (Vec (Vec ℕ Global) Global)). IfSome o (λ ids. AreIdsOf home.number (matches w.filter.now) (texts_of ids.items) now of))
    (λ now of (o : Option LookedUp). IfSome o (IsLookedUp w c.args.asked.now c.args.most of.documents))
    c.args.file.now c.asked_ids.new.file c.in_err-ids.field-0.0 c.in_err-ids.ensures)

pub returns-in_default-clause-reads : goal.returns-in_default-clause-reads
returns-in_default-clause-reads g c =
    let w = c.args.walk.now in
    let home = c.args.home.now in
    reads_made g.D.Disk.history (IsAsked home)
    (λ now of (o : Option (Vec (Vec ℕ Global) Global)). IfSome o (λ ids. AreIdsOf home.number (matches w.filter.now) (texts_of ids.items) now of))
    (λ now of (o : Option LookedUp). IfSome o (IsLookedUp w c.args.asked.now c.args.most of.documents))
    c.args.file.now c.asked_ids.new.file c.in_ok-ids.field-0 None c.in_ok-ids.ensures (λ now of asked told. tt)

pub returns-in_err-found-clause-reads : goal.returns-in_err-found-clause-reads
returns-in_err-found-clause-reads g c =
    let w = c.args.walk.now in
    let p = matches w.filter.now in
    let home = c.args.home.now in
    let ids : List (List ℕ) = texts_of c.deref.result.now in
    let e = err_from_is_err_and c.from_residual-in_err-found.result c.from_residual-in_err-found.ensures.1 in
    rw (e.1, e.2)
    (reads_refused g.D.Disk.history (IsAsked home) (λ now of (found : LookedUp). IsLookedUp w c.args.asked.now c.args.most of.documents found)
    (λ now of (o : Option LookedUp). IfSome o (IsLookedUp w c.args.asked.now c.args.most of.documents))
    c.args.file.now c.looked_up_by_ids.new.file c.in_err-found.field-0.0
    (reads_behind g.D.Disk.history (IsAsked home)
    (λ now of (o : Option (Vec (Vec ℕ Global) Global)). IfSome o (λ ids. AreIdsOf home.number p (texts_of ids.items) now of))
    (AreIdsOfAsked home p ids) (λ now of (found : LookedUp). IsLookedUp w c.args.asked.now c.args.most of.documents found)
    (λ now of (found : LookedUp). IsLookedUp w c.args.asked.now c.args.most of.documents found)
    c.args.file.now c.asked_ids.new.file c.looked_up_by_ids.new.file c.in_ok-ids.field-0 (Err c.in_err-found.field-0.0) c.in_ok-ids.ensures
    c.in_err-found.ensures.reads
    (λ now of asked told. record {
      other = of;
      was = record {
        asked = asked;
        ids = subst (λ ts. AreIdsOf home.number p (texts_of ts) now of) (sym c.deref.ensures.value)
            (subst (λ (o : Option (Vec (Vec ℕ Global) Global)). IfSome o (λ ids. AreIdsOf home.number p (texts_of ids.items) now of)) c.in-Some.is told);
      };
      right = λ found right. right;
    })))

pub returns-clause-reads : goal.returns-clause-reads
returns-clause-reads g c =
    let w = c.args.walk.now in
    let p = matches w.filter.now in
    let home = c.args.home.now in
    let ids : List (List ℕ) = texts_of c.deref.result.now in
    reads_made g.D.Disk.history (IsAsked home) (λ now of (found : LookedUp). IsLookedUp w c.args.asked.now c.args.most of.documents found)
    (λ now of (o : Option LookedUp). IfSome o (IsLookedUp w c.args.asked.now c.args.most of.documents))
    c.args.file.now c.looked_up_by_ids.new.file c.in_ok-found.found (Some c.in_ok-found.found)
    (reads_behind g.D.Disk.history (IsAsked home)
    (λ now of (o : Option (Vec (Vec ℕ Global) Global)). IfSome o (λ ids. AreIdsOf home.number p (texts_of ids.items) now of))
    (AreIdsOfAsked home p ids) (λ now of (found : LookedUp). IsLookedUp w c.args.asked.now c.args.most of.documents found)
    (λ now of (found : LookedUp). IsLookedUp w c.args.asked.now c.args.most of.documents found)
    c.args.file.now c.asked_ids.new.file c.looked_up_by_ids.new.file c.in_ok-ids.field-0 (Ok c.in_ok-found.found) c.in_ok-ids.ensures
    c.in_ok-found.ensures.reads
    (λ now of asked told. record {
      other = of;
      was = record {
        asked = asked;
        ids = subst (λ ts. AreIdsOf home.number p (texts_of ts) now of) (sym c.deref.ensures.value)
            (subst (λ (o : Option (Vec (Vec ℕ Global) Global)). IfSome o (λ ids. AreIdsOf home.number p (texts_of ids.items) now of)) c.in-Some.is told);
      };
      right = λ found right. right;
    }))
    (λ now of asked right. right)
