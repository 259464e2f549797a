use Rattle.std.proofs.Common.{◌≡◌, Bool, List, Bor, Option, Some, Ok, Err, Result, inl, inr, map, length, refl, sym, ap, subst, ◌∙◌, arith}
use Rattle.std.proofs.lemmas.List.{length-map}
use Rattle.std.specs.Prelude.{option_map}
use Rattle.std.proofs.lemmas.Result.{err_from_is_err_and}
use Rattle.bson.specs.Tree.{Pairs}
use Rattle.index.specs.Definition.{Definition}
use Rattle.entry_model.specs.Entering.{Enters}
use Rattle.index.specs.IndexKeys.{noted}
use Rattle.index.specs.KeyTexts.{keys_in_all}
use Rattle.entries.specs.declared.catalogue_reading.Catalogued.{Catalogued}
use Rattle.collections.specs.Lookups.{IsWithinLimits}
use Rattle.path.specs.declared.refusal.Refusal.{Refusal}
use Rattle.engine.proofs.EnteringSteps.{enter_done, enter_old_unkeyed, enter_refused, enter_undecided, is_new_where_none}
use Rattle.engine.proofs.engine.Engine.enter_keyed.Goals as goal

limits_noted : (home after : Catalogued) (d : Pairs) → IsWithinLimits home → after.number ≡ home.number
    → after.indexes.items ≡ map (noted d) home.indexes.items → IsWithinLimits after
limits_noted home after d limits number items =
    (omega (arith, number, limits.0), omega (arith, ap length items, length-map home.indexes.items (noted d), limits.1))

pub returns-in_err-is_duplicate-clause-notes : goal.returns-in_err-is_duplicate-clause-notes
returns-in_err-is_duplicate-clause-notes g c =
    let p = err_from_is_err_and c.from_residual.result c.from_residual.ensures.1 in
    let a = c.args in
    let was = option_map (λ d. d.now) a.replaced in
    let new_is = is_new_where_none (λ (d : Bor Pairs). d.now) a.replaced c.is_none.result c.is_none.ensures in
    let r : Result Bool Refusal = Err c.in_err-is_duplicate.field-0.0 in
    rw (p.1, p.2)
    (enter_undecided g.D.Disk.history a.self.now a.namespace.now a.home.now a.edits.now was a.keyed.now.document.now c.requires.storable a.id.now
    c.requires.text a.keyed.now refl c.requires.keyed c.is_none.result new_is r c.is_duplicate.new.self c.in_err-is_duplicate.ensures
    c.in_err-is_duplicate.field-0.0 refl)

pub returns-then-branch-clause-notes : goal.returns-then-branch-clause-notes
returns-then-branch-clause-notes g c =
    let a = c.args in
    let was = option_map (λ d. d.now) a.replaced in
    let new_is = is_new_where_none (λ (d : Bor Pairs). d.now) a.replaced c.is_none.result c.is_none.ensures in
    let r : Result Bool Refusal = Ok c.in_ok-is_duplicate.field-0 in
    enter_refused g.D.Disk.history a.self.now a.namespace.now a.home.now a.edits.now was a.keyed.now.document.now c.requires.storable a.id.now
    c.requires.text a.keyed.now refl c.requires.keyed c.is_none.result new_is r c.is_duplicate.new.self c.in_ok-is_duplicate.ensures
    (ap (λ (b : Bool). let q : Result Bool Refusal = Ok b in q) c.if-branch.true)

pub returns-in_ok-enter_document-in-None-clause-notes : goal.returns-in_ok-enter_document-in-None-clause-notes
returns-in_ok-enter_document-in-None-clause-notes g c =
    let a = c.args in
    let d = a.keyed.now.document.now in
    let was = option_map (λ d. d.now) a.replaced in
    let new_is = is_new_where_none (λ (d : Bor Pairs). d.now) a.replaced c.is_none.result c.is_none.ensures in
    let r : Result Bool Refusal = Ok c.in_ok-is_duplicate.field-0 in
    enter_done g.D.Disk.history a.self.now a.namespace.now a.home.now a.edits.now was d c.requires.storable a.id.now
    c.requires.text a.keyed.now refl c.requires.keyed c.is_none.result new_is r c.is_duplicate.new.self c.in_ok-is_duplicate.ensures
    (ap (λ (b : Bool). let q : Result Bool Refusal = Ok b in q) c.if-branch.false)
    c.enter_document.new.home c.enter_document.new.self c.enter_document.ensures.number c.enter_document.ensures.noted
    (subst (λ (o : Option Pairs). Enters a.edits.now c.enter_document.new.self a.namespace.now a.home.now.number a.home.now.indexes.items o d)
    (sym (ap (option_map (λ d. d.now)) c.in-None.is)) c.in_ok-enter_document-in-None.ensures.enters)

pub returns-in_err-old-in-Some-clause-notes : goal.returns-in_err-old-in-Some-clause-notes
returns-in_err-old-in-Some-clause-notes g c =
    let p = err_from_is_err_and c.from_residual-in_err-old-in-Some.result c.from_residual-in_err-old-in-Some.ensures.1 in
    let a = c.args in
    let was = option_map (λ d. d.now) a.replaced in
    let new_is = is_new_where_none (λ (d : Bor Pairs). d.now) a.replaced c.is_none.result c.is_none.ensures in
    let r : Result Bool Refusal = Ok c.in_ok-is_duplicate.field-0 in
    rw (p.1, p.2)
    (enter_old_unkeyed g.D.Disk.history a.self.now a.namespace.now a.home.now a.edits.now was a.keyed.now.document.now c.requires.storable a.id.now
    c.requires.text a.keyed.now refl c.requires.keyed c.is_none.result new_is r c.is_duplicate.new.self c.in_ok-is_duplicate.ensures
    (ap (λ (b : Bool). let q : Result Bool Refusal = Ok b in q) c.if-branch.false)
    c.in-Some.old.now c.in_err-old-in-Some.field-0.0 (ap (option_map (λ d. d.now)) c.in-Some.is)
    (λ other. ap (λ (is : List Definition). keys_in_all is c.in-Some.old.now) (sym c.deref.ensures.value) ∙ c.in_err-old-in-Some.ensures.refused other))

pub returns-in_ok-entered-in-Some-clause-notes : goal.returns-in_ok-entered-in-Some-clause-notes
returns-in_ok-entered-in-Some-clause-notes g c =
    let a = c.args in
    let d = a.keyed.now.document.now in
    let was = option_map (λ d. d.now) a.replaced in
    let new_is = is_new_where_none (λ (d : Bor Pairs). d.now) a.replaced c.is_none.result c.is_none.ensures in
    let r : Result Bool Refusal = Ok c.in_ok-is_duplicate.field-0 in
    let after = c.enter_document-entered.new in
    let told : Some c.in_ok-old-in-Some.old.document.now ≡ was =
    ap (λ (x : Pairs). Some x) c.in_ok-old-in-Some.ensures.document ∙ sym (ap (option_map (λ d. d.now)) c.in-Some.is) in
    enter_done g.D.Disk.history a.self.now a.namespace.now a.home.now a.edits.now was d c.requires.storable a.id.now
    c.requires.text a.keyed.now refl c.requires.keyed c.is_none.result new_is r c.is_duplicate.new.self c.in_ok-is_duplicate.ensures
    (ap (λ (b : Bool). let q : Result Bool Refusal = Ok b in q) c.if-branch.false)
    after.home after.self c.enter_document-entered.ensures.number c.enter_document-entered.ensures.noted
    (subst (λ (o : Option Pairs). Enters a.edits.now after.self a.namespace.now a.home.now.number a.home.now.indexes.items o d) told
    c.in_ok-entered-in-Some.ensures.enters)

-- memory ran out once the document was known to be no duplicate
pub returns-in_err-enter_document-in-None-clause-notes : goal.returns-in_err-enter_document-in-None-clause-notes
returns-in_err-enter_document-in-None-clause-notes g c =
    let p = err_from_is_err_and c.from_residual-in_err-enter_document-in-None.result c.from_residual-in_err-enter_document-in-None.ensures.1 in
    rw p.1 (record { reads = c.in_ok-is_duplicate.ensures.reads; answers = λ k found noted may. inr (inl p.2) })

pub returns-in_err-entered-in-Some-clause-notes : goal.returns-in_err-entered-in-Some-clause-notes
returns-in_err-entered-in-Some-clause-notes g c =
    let p = err_from_is_err_and c.from_residual-in_err-entered-in-Some.result c.from_residual-in_err-entered-in-Some.ensures.1 in
    rw p.1 (record { reads = c.in_ok-is_duplicate.ensures.reads; answers = λ k found noted may. inr (inl p.2) })

pub returns-in_err-is_duplicate-clause-limits : goal.returns-in_err-is_duplicate-clause-limits
returns-in_err-is_duplicate-clause-limits g c = c.requires.limits

pub returns-then-branch-clause-limits : goal.returns-then-branch-clause-limits
returns-then-branch-clause-limits g c = c.requires.limits

pub returns-in_err-old-in-Some-clause-limits : goal.returns-in_err-old-in-Some-clause-limits
returns-in_err-old-in-Some-clause-limits g c = c.requires.limits

pub returns-in_err-enter_document-in-None-clause-limits : goal.returns-in_err-enter_document-in-None-clause-limits
returns-in_err-enter_document-in-None-clause-limits g c =
    limits_noted c.args.home.now c.enter_document.new.home c.args.keyed.now.document.now c.requires.limits c.enter_document.ensures.number
    c.enter_document.ensures.noted

pub returns-in_ok-enter_document-in-None-clause-limits : goal.returns-in_ok-enter_document-in-None-clause-limits
returns-in_ok-enter_document-in-None-clause-limits g c =
    limits_noted c.args.home.now c.enter_document.new.home c.args.keyed.now.document.now c.requires.limits c.enter_document.ensures.number
    c.enter_document.ensures.noted

pub returns-in_err-entered-in-Some-clause-limits : goal.returns-in_err-entered-in-Some-clause-limits
returns-in_err-entered-in-Some-clause-limits g c =
    limits_noted c.args.home.now c.enter_document-entered.new.home c.args.keyed.now.document.now c.requires.limits c.enter_document-entered.ensures.number
    c.enter_document-entered.ensures.noted

pub returns-in_ok-entered-in-Some-clause-limits : goal.returns-in_ok-entered-in-Some-clause-limits
returns-in_ok-entered-in-Some-clause-limits g c =
    limits_noted c.args.home.now c.enter_document-entered.new.home c.args.keyed.now.document.now c.requires.limits c.enter_document-entered.ensures.number
    c.enter_document-entered.ensures.noted
