use Rattle.std.proofs.Common.{[], ℕ, Option, Some, Vec, Global, subst}
use Rattle.std.specs.Prelude.{IfSome}
use Rattle.std.proofs.lemmas.Result.{err_from_is_err_and}
use Rattle.filter.specs.Matches.{matches}
use Rattle.index.specs.View.{texts_of}
use Rattle.asked_documents.specs.Asking.{IsAsked}
use Rattle.asked_documents.specs.ById.{TellOf}
use Rattle.candidate_ids.proofs.AlternativesLemmas.{behind_nothing}
use Rattle.asked_documents.proofs.ReadingLemmas.{reads_made, reads_refused}
use Rattle.candidate_ids.proofs.alternatives.ids_served.Goals as goal

pub returns-in_err-ids : goal.returns-in_err-ids
returns-in_err-ids g c =
    let home = c.args.home.now in
    let rs = c.args.filter.now in
    let e = err_from_is_err_and c.from_residual.result c.from_residual.ensures.1 in
    rw (e.1, e.2)
    (reads_refused g.D.Disk.history (IsAsked home)
    (λ now of (found : Option (Vec (Vec ℕ Global) Global)). IfSome found
    (λ ids. TellOf of (matches rs) [] (texts_of ids.items)))
    (λ now of (found : Option (Vec (Vec ℕ Global) Global)). IfSome found (λ ids. TellOf of (matches rs) [] (texts_of ids.items)))
    c.args.file.now c.ids_by_index.new.file c.in_err-ids.field-0.0 c.in_err-ids.ensures)

pub returns-in-Some : goal.returns-in-Some
returns-in-Some g c =
    let home = c.args.home.now in
    let rs = c.args.filter.now in
    reads_made g.D.Disk.history (IsAsked home)
    (λ now of (found : Option (Vec (Vec ℕ Global) Global)). IfSome found
    (λ ids. TellOf of (matches rs) [] (texts_of ids.items)))
    (λ now of (found : Option (Vec (Vec ℕ Global) Global)). IfSome found (λ ids. TellOf of (matches rs) [] (texts_of ids.items)))
    c.args.file.now c.ids_by_index.new.file c.in_ok-ids.field-0 (Some c.in-Some.ids) c.in_ok-ids.ensures
    (λ now of asked so. subst (λ (o : Option (Vec (Vec ℕ Global) Global)). IfSome o (λ ids. TellOf of (matches rs) [] (texts_of ids.items))) c.in-Some.is so)

pub returns : goal.returns
returns g c =
    let home = c.args.home.now in
    let rs = c.args.filter.now in
    behind_nothing g.D.Disk.history home
    (λ now of (found : Option (Vec (Vec ℕ Global) Global)). IfSome found (λ ids. TellOf of (matches rs) [] (texts_of ids.items)))
    c.args.file.now c.ids_by_index.new.file c.ids_by_alternatives.new.file c.ids_by_alternatives.result
    (reads_made g.D.Disk.history (IsAsked home)
    (λ now of (found : Option (Vec (Vec ℕ Global) Global)). IfSome found
    (λ ids. TellOf of (matches rs) [] (texts_of ids.items)))
    (λ now of (_ : Unit {0}). Unit {0}) c.args.file.now c.ids_by_index.new.file c.in_ok-ids.field-0 tt c.in_ok-ids.ensures (λ now of asked so. tt))
    c.ids_by_alternatives.ensures
