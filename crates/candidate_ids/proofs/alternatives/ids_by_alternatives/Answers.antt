use Rattle.std.proofs.Common.{◌≡◌, [], ℕ, List, Option, Some, None, Ok, Err, Vec, Global, sym, subst}
use Rattle.std.specs.Prelude.{IfSome, option_map}
use Rattle.std.proofs.lemmas.Result.{err_from_is_err_and}
use Rattle.filter.specs.Matches.{holds, matches, whole}
use Rattle.filter.specs.View.{condition_of, conditions_of}
use Rattle.index.specs.View.{texts_of}
use Rattle.candidate_ids.specs.Alternatives.{AreAlternatives, one_holds}
use Rattle.candidate_ids.specs.declared.alternatives.Alternatives.{Alternatives}
use Rattle.asked_documents.specs.Asking.{IsAsked}
use Rattle.asked_documents.specs.ById.{TellOf}
use Rattle.candidate_ids.proofs.AlternativesLemmas.{behind_nothing, filter_leads, told_narrow}
use Rattle.asked_documents.proofs.ReadingLemmas.{reads_made, reads_none, reads_refused}
use Rattle.candidate_ids.proofs.alternatives.ids_by_alternatives.Goals as goal

pub conditions-init : goal.conditions-init
conditions-init g c =
    reads_none g.D.Disk.history (IsAsked c.args.home.now) (λ now of (_ : Unit {0}). Unit {0}) c.args.file.now tt (sym c.if-is_stopped.ensures)
    (λ now state of asked. tt)

pub returns-in_err-ids : goal.returns-in_err-ids
returns-in_err-ids g c =
    let home = c.args.home.now in
    let path = option_map (λ p. p.now) c.in-Some.alternatives.path in
    let ms = conditions_of c.in-Some.alternatives.conditions.now in
    let e = err_from_is_err_and c.from_residual.result c.from_residual.ensures.1 in
    rw (e.1, e.2)
    (reads_refused g.D.Disk.history (IsAsked home)
    (λ now of (found : Option (Vec (Vec ℕ Global) Global)). IfSome found (λ ids. TellOf of (one_holds path ms) [] (texts_of ids.items)))
    (λ now of (found : Option (Vec (Vec ℕ Global) Global)). IfSome found (λ ids. TellOf of (matches c.args.filter.now) [] (texts_of ids.items)))
    c.args.file.now c.ids_of_all.new.file c.in_err-ids.field-0.0
    (behind_nothing g.D.Disk.history home
    (λ now of (found : Option (Vec (Vec ℕ Global) Global)). IfSome found (λ ids. TellOf of (one_holds path ms) [] (texts_of ids.items)))
    c.args.file.now c.conditions.file c.ids_of_all.new.file (Err c.in_err-ids.field-0.0) c.conditions.invariant c.in_err-ids.ensures))

pub returns-in-Some-2 : goal.returns-in-Some-2
returns-in-Some-2 g c =
    let home = c.args.home.now in
    let path = option_map (λ p. p.now) c.in-Some.alternatives.path in
    let ms = conditions_of c.in-Some.alternatives.conditions.now in
    let r = c.condition-item.result in
    let leads : AreAlternatives (matches c.args.filter.now) path ms =
    filter_leads c.conditions-condition-items.result.now c.conditions.condition-index r c.args.filter.now path ms c.conditions-test.true c.condition-item.is
    c.conditions-condition-items.ensures
    (subst (λ (o : Option Alternatives). IfSome o (λ a. AreAlternatives (λ d. holds (condition_of r) (whole d)) (option_map (λ p. p.now) a.path)
    (conditions_of a.conditions.now))) c.in-Some.is c.alternatives_in.ensures) in
    reads_made g.D.Disk.history (IsAsked home)
    (λ now of (found : Option (Vec (Vec ℕ Global) Global)). IfSome found (λ ids. TellOf of (one_holds path ms) [] (texts_of ids.items)))
    (λ now of (found : Option (Vec (Vec ℕ Global) Global)). IfSome found (λ ids. TellOf of (matches c.args.filter.now) [] (texts_of ids.items)))
    c.args.file.now c.ids_of_all.new.file c.in_ok-ids.field-0 (Some c.in-Some-2.ids)
    (behind_nothing g.D.Disk.history home
    (λ now of (found : Option (Vec (Vec ℕ Global) Global)). IfSome found (λ ids. TellOf of (one_holds path ms) [] (texts_of ids.items)))
    c.args.file.now c.conditions.file c.ids_of_all.new.file (Ok c.in_ok-ids.field-0) c.conditions.invariant c.in_ok-ids.ensures)
    (λ now of asked so. told_narrow of (one_holds path ms) (matches c.args.filter.now) (texts_of c.in-Some-2.ids.items) leads
    (subst (λ (o : Option (Vec (Vec ℕ Global) Global)). IfSome o (λ ids. TellOf of (one_holds path ms) [] (texts_of ids.items))) c.in-Some-2.is so))

pub conditions-preserved : goal.conditions-preserved
conditions-preserved g c =
    let home = c.args.home.now in
    let path = option_map (λ p. p.now) c.in-Some.alternatives.path in
    let ms = conditions_of c.in-Some.alternatives.conditions.now in
    reads_made g.D.Disk.history (IsAsked home)
    (λ now of (found : Option (Vec (Vec ℕ Global) Global)). IfSome found (λ ids. TellOf of (one_holds path ms) [] (texts_of ids.items)))
    (λ now of (_ : Unit {0}). Unit {0}) c.args.file.now c.ids_of_all.new.file c.in_ok-ids.field-0 tt
    (behind_nothing g.D.Disk.history home
    (λ now of (found : Option (Vec (Vec ℕ Global) Global)). IfSome found (λ ids. TellOf of (one_holds path ms) [] (texts_of ids.items)))
    c.args.file.now c.conditions.file c.ids_of_all.new.file (Ok c.in_ok-ids.field-0) c.conditions.invariant c.in_ok-ids.ensures)
    (λ now of asked so. tt)

pub returns : goal.returns
returns g c =
    reads_made g.D.Disk.history (IsAsked c.args.home.now) (λ now of (_ : Unit {0}). Unit {0})
    (λ now of (found : Option (Vec (Vec ℕ Global) Global)). IfSome found (λ ids. TellOf of (matches c.args.filter.now) [] (texts_of ids.items)))
    c.args.file.now c.conditions.file tt None c.conditions.invariant (λ now of asked so. tt)
