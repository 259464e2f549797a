use Rattle.std.proofs.Common.{◌≡◌, ℕ, List, Option, Vec, Global, length, subst, sym}
use Rattle.std.specs.Prelude.{IfSome}
use Rattle.std.proofs.lemmas.Result.{err_from_is_err_and}
use Rattle.database_model.specs.Find.{matching}
use Rattle.filter.specs.Matches.{matches}
use Rattle.index.specs.View.{texts_of}
use Rattle.asked_documents.specs.Asking.{IsAsked}
use Rattle.asked_documents.specs.ById.{AreIdsOf}
use Rattle.asked_documents.proofs.ReadingLemmas.{reads_behind, reads_refused}
use Rattle.queries.proofs.counting.count_in.Goals as goal

pub returns-in_err-ids : goal.returns-in_err-ids
returns-in_err-ids g c =
    let home = c.args.home.now in
    let rules = c.args.filter.now in
    let e = err_from_is_err_and c.from_residual.result c.from_residual.ensures.1 in
    rw (e.1, e.2)
    (reads_refused g.D.Disk.history (IsAsked home)
    (λ now of (o : Option (Vec (Vec ℕ Global) Global)). IfSome o (λ ids. AreIdsOf home.number (matches rules) (texts_of ids.items) now of))
    (λ now of (count : ℕ). count ≡ length (matching rules of.documents)) c.args.file.now c.asked_ids.new.file c.in_err-ids.field-0.0 c.in_err-ids.ensures)

pub returns-in-Some : goal.returns-in-Some
returns-in-Some g c =
    let home = c.args.home.now in
    let rules = c.args.filter.now in
    let ids : List (List ℕ) = texts_of c.deref.result.now in
    reads_behind g.D.Disk.history (IsAsked home)
    (λ now of (o : Option (Vec (Vec ℕ Global) Global)). IfSome o (λ ids. AreIdsOf home.number (matches rules) (texts_of ids.items) now of))
    (AreIdsOf home.number (matches rules) ids) (λ now of (count : ℕ). count ≡ length (matching rules of.documents))
    (λ now of (count : ℕ). count ≡ length (matching rules of.documents))
    c.args.file.now c.asked_ids.new.file c.count_by_ids.new.file c.in_ok-ids.field-0 c.count_by_ids.result c.in_ok-ids.ensures c.count_by_ids.ensures
    (λ now of asked told. record {
      other = of;
      was = subst (λ ts. AreIdsOf home.number (matches rules) (texts_of ts) now of) (sym c.deref.ensures.value)
          (subst (λ (o : Option (Vec (Vec ℕ Global) Global)). IfSome o (λ ids. AreIdsOf home.number (matches rules) (texts_of ids.items) now of)) c.in-Some.is
          told);
      right = λ count right. right;
    })

pub returns-in-None : goal.returns-in-None
returns-in-None g c =
    let home = c.args.home.now in
    let rules = c.args.filter.now in
    reads_behind g.D.Disk.history (IsAsked home)
    (λ now of (o : Option (Vec (Vec ℕ Global) Global)). IfSome o (λ ids. AreIdsOf home.number (matches rules) (texts_of ids.items) now of))
    (IsAsked home) (λ now of (count : ℕ). count ≡ length (matching rules of.documents))
    (λ now of (count : ℕ). count ≡ length (matching rules of.documents))
    c.args.file.now c.asked_ids.new.file c.count_scanned.new.file c.in_ok-ids.field-0 c.count_scanned.result c.in_ok-ids.ensures c.count_scanned.ensures
    (λ now of asked told. record { other = of; was = asked; right = λ count right. right })
