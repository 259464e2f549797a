use Rattle.std.proofs.Common.{List, [], sym, ap, subst, ◌∙◌}
use Rattle.std.proofs.lemmas.Result.{err_from_is_err_and}
use Rattle.std.proofs.lemmas.List.Elements.{All-head}
use Rattle.index.specs.Definition.{Definition}
use Rattle.entries.specs.Indexed.{DeletesFrom}
use Rattle.index.specs.KeyTexts.{keys_in_all}
use Rattle.engine.specs.TakingOut.{IsIndexable}
use Rattle.engine.proofs.TakingOutLemmas.{keyed_memory, takes_one}
use Rattle.engine.proofs.removing.note_one.Goals as goal

pub returns-in_err-id : goal.returns-in_err-id
returns-in_err-id c =
    let p = err_from_is_err_and c.from_residual.result c.from_residual.ensures.1 in
    rw (p.1, p.2) (λ all. c.in_err-id.ensures.stored (All-head (IsIndexable c.args.home.now.indexes.items) c.args.document.now [] all).storable)

pub returns-in_err-keyed : goal.returns-in_err-keyed
returns-in_err-keyed c =
    let p = err_from_is_err_and c.from_residual-in_err-keyed.result c.from_residual-in_err-keyed.ensures.1 in
    let d = c.args.document.now in
    rw (p.1, p.2) (λ all. keyed_memory c.args.home.now.indexes.items d c.in_err-keyed.field-0.0 all
    (λ other. ap (λ (is : List Definition). keys_in_all is d) (sym c.deref.ensures.value) ∙ c.in_err-keyed.ensures.refused other))

pub returns : goal.returns
returns c =
    let home = c.args.home.now in
    let d = c.args.document.now in
    takes_one c.args.edits.now c.delete_document.new.self home.number home.indexes.items d
    (subst (λ (is : List Definition). DeletesFrom c.args.edits.now c.delete_document.new.self home.number is d) c.deref-2.ensures.value
    c.in_ok-delete_document.ensures.leads)
