use Rattle.std.proofs.Common.{Ok, append-nil, ap, sym, ◌∙◌, List, map}
use Rattle.std.proofs.lemmas.List.{drop_all}
use Rattle.index.specs.Definition.{Definition}
use Rattle.index.specs.Steps.{keys_behind}
use Rattle.index.specs.View.{texts_of}
use Rattle.index.proofs.TextLemmas.{drop_step, refused, refused_any}
use Rattle.index.proofs.keys.keys_in_all.Goals as goal

pub returns-in_err-keys-clause-gives : goal.returns-in_err-keys-clause-gives
returns-in_err-keys-clause-gives c =
    let ds = c.args.indexes.now in
    let done = map (λ keys. texts_of keys.items) c.indexes.all.items in
    let e = c.in_err-keys.field-0.0 in
    refused (λ v. map (λ keys. texts_of keys.items) v.items) _ c.from_residual-in_err-keys.result e c.from_residual-in_err-keys.ensures.1
    (λ known.
    sym c.indexes.invariant.planned
    ∙ ap (λ (es : List Definition). keys_behind done c.indexes.is_parallel es c.args.source.now)
    (drop_step ds c.indexes.index-index c.index-item.result c.indexes-test.true c.index-item.is)
    ∙ refused_any _ _ e (c.in_err-keys.ensures.gives known) _ _)

pub returns-then-is_parallel-clause-gives : goal.returns-then-is_parallel-clause-gives
returns-then-is_parallel-clause-gives c = λ known.
    let done = map (λ keys. texts_of keys.items) c.indexes.all.items in
    sym c.indexes.invariant.planned
    ∙ (λ i. keys_behind done (c.if-is_parallel.true i) (drop_all c.indexes.index-index c.args.indexes.now c.indexes-test.false i) c.args.source.now)

pub returns-clause-gives : goal.returns-clause-gives
returns-clause-gives c =
    let done = map (λ keys. texts_of keys.items) c.indexes.all.items in
    sym c.indexes.invariant.planned
    ∙ (λ i. keys_behind done (c.if-is_parallel.false i) (drop_all c.indexes.index-index c.args.indexes.now c.indexes-test.false i) c.args.source.now)
    ∙ ap Ok (append-nil done)
