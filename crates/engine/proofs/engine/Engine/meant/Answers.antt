use Rattle.std.proofs.Common.{◌≡◌, ap, ◌∙◌, List}
use Rattle.std.proofs.lemmas.Result.{err_from_is_err_and}
use Rattle.bson.specs.Tree.{Pairs}
use Rattle.database_model.specs.Merging.{is_meant, is_meant_by}
use Rattle.engine.proofs.MeantLemmas.{meant_missing, meant_there, meant_unread, meant_unselected, meant_without_memory}
use Rattle.engine.proofs.engine.Engine.meant.Goals as goal

pub returns-in_err-home-clause-tries : goal.returns-in_err-home-clause-tries
returns-in_err-home-clause-tries g c =
    let p = err_from_is_err_and c.from_residual.result c.from_residual.ensures.1 in
    rw (p.1, p.2)
    (meant_unread g.D.Disk.history c.args.namespace.now c.args.statements.now c.args.self.now c.catalogued.new.self c.in_err-home.field-0.0
    c.in_err-home.ensures.looks)

pub returns-in_default-clause-tries : goal.returns-in_default-clause-tries
returns-in_default-clause-tries g c =
    meant_missing g.D.Disk.history c.args.namespace.now c.args.statements.now c.args.self.now c.catalogued.new.self c.meant_in_none.new.self
    (rw c.in_default.is at c.in_ok-home.ensures.looks) c.meant_in_none.result c.meant_in_none.ensures.tries

pub returns-in_err-made-clause-tries : goal.returns-in_err-made-clause-tries
returns-in_err-made-clause-tries g c =
    let p = err_from_is_err_and c.from_residual-in_err-made.result c.from_residual-in_err-made.ensures.1 in
    rw (p.1, p.2)
    (meant_without_memory g.D.Disk.history c.args.namespace.now c.args.statements.now c.args.self.now c.catalogued.new.self c.in_err-made.field-0.0
    c.in_err-made.ensures.err c.in_ok-home.ensures.looks.reads)

pub returns-in_err-documents-clause-tries : goal.returns-in_err-documents-clause-tries
returns-in_err-documents-clause-tries g c =
    let p = err_from_is_err_and c.from_residual-in_err-documents.result c.from_residual-in_err-documents.ensures.1 in
    let ss = c.args.statements.now in
    let made = c.deref.result.now in
    let same : (d : Pairs)
    → is_meant_by ss made d ≡ is_meant ss d = λ d. ap (λ (ds : List Pairs). is_meant_by ss ds d) (c.deref.ensures.value ∙ c.in_ok-made.ensures.ok) in
    let suffices = c.enough.ensures (c.deref-2.ensures.value ∙ c.in_ok-made.ensures.ok) in
    rw (p.1, p.2)
    (meant_unselected g.D.Disk.history c.args.namespace.now ss c.args.self.now c.catalogued.new.self c.in-Some.home
    (rw c.in-Some.is at c.in_ok-home.ensures.looks) (is_meant_by ss made) same c.enough.result suffices c.selected.new.self
    c.in_err-documents.field-0.0 c.in_err-documents.ensures.looks)

pub returns-clause-tries : goal.returns-clause-tries
returns-clause-tries g c =
    let ss = c.args.statements.now in
    let made = c.deref.result.now in
    let same : (d : Pairs)
    → is_meant_by ss made d ≡ is_meant ss d = λ d. ap (λ (ds : List Pairs). is_meant_by ss ds d) (c.deref.ensures.value ∙ c.in_ok-made.ensures.ok) in
    let suffices = c.enough.ensures (c.deref-2.ensures.value ∙ c.in_ok-made.ensures.ok) in
    meant_there g.D.Disk.history c.args.namespace.now ss c.args.self.now c.catalogued.new.self c.in-Some.home (rw c.in-Some.is at c.in_ok-home.ensures.looks)
    (is_meant_by ss made) same c.enough.result suffices c.selected.new.self c.in_ok-documents.documents c.in_ok-documents.ensures.looks
