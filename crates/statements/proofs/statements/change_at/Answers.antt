use Rattle.std.proofs.Common.{◌≡◌, [], ◌∷◌, ◌++◌, set, false, Some, Ok, refl, sym, ap, subst, ◌∙◌}
use Rattle.std.specs.Prelude.{IfSome, IfNone}
use Rattle.std.proofs.lemmas.List.{get_or_default}
use Rattle.bson.specs.Tree.{Pairs, no_pairs}
use Rattle.update_model.specs.Applying.{apply}
use Rattle.update.specs.View.{update_of}
use Rattle.outcome.specs.Outcome.{Fails}
use Rattle.path.specs.declared.refusal.Refusal.TheVariants as refusals
use Rattle.std.proofs.lemmas.Result.{err_from_is_err_and}
use Rattle.database_model.specs.Lawful.{IsWithin}
use Rattle.statements.specs.Updating.{IsChange, document_at}
use Rattle.statements.specs.declared.statements.Run.{Run}
use Rattle.statements.proofs.UpdatingLoop.{changes_none, changes_some}
use Rattle.statements.proofs.statements.change_at.Goals as goal

pub changed-requires : goal.changed-requires
changed-requires c =
    let d = c.index.result.now in
    subst IsWithin (sym (c.document.ensures ∙ c.index.ensures)) (c.requires.within c.args.place d c.requires.there)

pub returns-in_err-found-clause-refused : goal.returns-in_err-found-clause-refused
returns-in_err-found-clause-refused c =
    let p = err_from_is_err_and c.from_residual.result c.from_residual.ensures.1 in
    let u = update_of c.args.change.now in
    let old = c.args.run.now in
    let here : c.document.result.now ≡ document_at c.args.place old =
    c.document.ensures ∙ c.index.ensures ∙ get_or_default old.documents.items c.args.place c.index.result.now no_pairs c.requires.there in
    rw (p.1, p.2) (subst (λ (d : Pairs). Fails refusals.OutOfMemory c.in_err-found.field-0.0 (apply u 65535 d)) here c.in_err-found.ensures.refused)

pub returns-in_default-clause-changes : goal.returns-in_default-clause-changes
returns-in_default-clause-changes c =
    let u = update_of c.args.change.now in
    let old = c.args.run.now in
    let here : c.document.result.now ≡ document_at c.args.place old =
    c.document.ensures ∙ c.index.ensures ∙ get_or_default old.documents.items c.args.place c.index.result.now no_pairs c.requires.there in
    let same = subst (λ o. IfNone o (apply u 65535 c.document.result.now ≡ Ok c.document.result.now)) c.in_default.is c.in_ok-found.ensures.none in
    let is = subst (λ (d : Pairs). apply u 65535 d ≡ Ok d) here same in
    changes_none u c.args.place old
    (record old { tally = record old.tally { matched = c.counted-run.result } }) c.counted-run.ensures refl refl c.requires.within refl refl refl is

pub returns-clause-changes : goal.returns-clause-changes
returns-clause-changes c =
    let u = update_of c.args.change.now in
    let old = c.args.run.now in
    let here : c.document.result.now ≡ document_at c.args.place old =
    c.document.ensures ∙ c.index.ensures ∙ get_or_default old.documents.items c.args.place c.index.result.now no_pairs c.requires.there in
    let made = subst (λ o. IfSome o (IsChange u c.document.result.now)) c.in-Some.is c.in_ok-found.ensures.some in
    let change = subst (λ (d : Pairs). IsChange u d c.in-Some.new) here made in
    let new : Run = record {
      documents = c.replace_at-old.new.documents;
      writes = c.push.new.self;
      keeps_old = old.keeps_old;
      tally = record old.tally { matched = c.counted-run.result; modified = c.counted-run-2.result };
    } in
    let before = c.if_kept-old.result in
    changes_some u c.args.place old new c.counted-run.ensures refl refl c.requires.within c.requires.there c.requires.read c.in-Some.new change
    (c.replace_at-old.ensures.new ∙ ap (λ (d : Pairs). set old.documents.items c.args.place d) (c.in_ok-share.ensures ∙ c.in_ok-new.ensures))
    before (λ k. c.if_kept-old.ensures k ∙ ap (λ (d : Pairs). Some d) c.replace_at-old.ensures.old)
    (c.in_ok-push.ensures.items
    ∙ ap (λ (d : Pairs). old.writes.items ++ record { is_new = false; old = before; new = d } ∷ []) c.in_ok-new.ensures) c.counted-run-2.ensures
