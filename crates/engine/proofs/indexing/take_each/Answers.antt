use Rattle.std.proofs.Common.{◌+◌, List, take, drop, sym, subst}
use Rattle.std.proofs.lemmas.List.{take_all}
use Rattle.std.proofs.lemmas.Result.{err_from_is_err_and}
use Rattle.bson.specs.Tree.{Pairs}
use Rattle.engine.specs.Indexing.{RefusesOne, TakesEach}
use Rattle.engine.proofs.IndexingLemmas.{around_it, refuses_next, refuses_untexted, taken_next, takes_more}
use Rattle.engine.proofs.indexing.take_each.Goals as goal

pub returns-in_err-id-clause-refuses : goal.returns-in_err-id-clause-refuses
returns-in_err-id-clause-refuses c =
    let p = err_from_is_err_and c.from_residual.result c.from_residual.ensures.1 in
    let ds = c.args.documents.now in
    let i = c.documents.document-index in
    let d = c.document-item.result in
    let e = c.in_err-id.field-0.0 in
    rw (p.1, p.2) (subst (λ (xs : List Pairs). RefusesOne c.args.made.now xs e) (around_it ds i d c.documents-test.true c.document-item.is)
    (refuses_untexted c.args.made.now c.documents.made (take i ds) d c.documents.invariant (drop (i + 1) ds) e c.in_err-id.ensures.stored))

pub returns-in_err-take-clause-refuses : goal.returns-in_err-take-clause-refuses
returns-in_err-take-clause-refuses c =
    let p = err_from_is_err_and c.from_residual-in_err-take.result c.from_residual-in_err-take.ensures.1 in
    let ds = c.args.documents.now in
    let i = c.documents.document-index in
    let d = c.document-item.result in
    let e = c.in_err-take.field-0.0 in
    rw (p.1, p.2) (subst (λ (xs : List Pairs). RefusesOne c.args.made.now xs e) (around_it ds i d c.documents-test.true c.document-item.is)
    (refuses_next c.args.made.now c.documents.made (take i ds) d c.documents.invariant (drop (i + 1) ds) e c.in_err-take.ensures.refuses))

pub documents-preserved : goal.documents-preserved
documents-preserved c =
    let ds = c.args.documents.now in
    let i = c.documents.document-index in
    let d = c.document-item.result in
    subst (TakesEach c.args.made.now c.take.new.self) (sym (taken_next ds i d c.documents-test.true c.document-item.is))
    (takes_more c.args.made.now c.documents.made (take i ds) d c.documents.invariant c.take.new.self c.in_ok-take.ensures.takes)

pub returns-clause-takes : goal.returns-clause-takes
returns-clause-takes c =
    let ds = c.args.documents.now in
    subst (TakesEach c.args.made.now c.documents.made) (take_all c.documents.document-index ds c.documents-test.false) c.documents.invariant
