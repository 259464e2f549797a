use Rattle.std.proofs.Common.{List, length, ap, subst, arith}
use Rattle.std.proofs.lemmas.Result.{err_from_is_err_and}
use Rattle.tree_model.specs.Keys.{Edit}
use Rattle.entry_model.specs.Documents.{AddsCollection}
use Rattle.engine.proofs.InsertSteps.{target_new, target_refused, target_there, target_unread, target_without_memory}
use Rattle.engine.proofs.OnlyReading.{reads_on}
use Rattle.engine.proofs.engine.Engine.target.Goals as goal

pub returns-in_err-home-clause-tries : goal.returns-in_err-home-clause-tries
returns-in_err-home-clause-tries g c =
    let p = err_from_is_err_and c.from_residual.result c.from_residual.ensures.1 in
    rw (p.1, p.2)
    (target_unread g.D.Disk.history c.args.namespace.now c.args.self.now c.catalogued.new.self c.args.edits.now c.in_err-home.field-0.0
    c.in_err-home.ensures.looks)

pub returns-in-Some-clause-tries : goal.returns-in-Some-clause-tries
returns-in-Some-clause-tries g c =
    target_there g.D.Disk.history c.args.namespace.now c.args.self.now c.catalogued.new.self c.args.edits.now c.in-Some.home c.requires.none
    (rw c.in-Some.is at c.in_ok-home.ensures.looks)

pub returns-in_err-number-clause-tries : goal.returns-in_err-number-clause-tries
returns-in_err-number-clause-tries g c =
    let p = err_from_is_err_and c.from_residual-in_err-number.result c.from_residual-in_err-number.ensures.1 in
    rw (p.1, p.2) (target_refused g.D.Disk.history c.args.namespace.now c.args.self.now c.catalogued.new.self (rw c.in_default.is at c.in_ok-home.ensures.looks)
    c.new_number.new.self c.args.edits.now c.in_err-number.field-0.0 c.in_err-number.ensures.tries)

pub returns-in_err-put_collection-clause-tries : goal.returns-in_err-put_collection-clause-tries
returns-in_err-put_collection-clause-tries g c =
    let p = err_from_is_err_and c.from_residual-in_err-put_collection.result c.from_residual-in_err-put_collection.ensures.1 in
    rw p.1 (target_without_memory g.D.Disk.history c.args.namespace.now c.args.self.now c.catalogued.new.self c.put_collection.new.self p.0
    c.new_number.new.self
    (reads_on g.D.Disk.history c.args.self.now c.catalogued.new.self c.new_number.new.self c.in_ok-home.ensures.looks.reads c.in_ok-number.ensures.tries.reads)
    p.2)

pub returns-clause-tries : goal.returns-clause-tries
returns-clause-tries g c =
    let name = c.args.namespace.now in
    let n = c.in_ok-number.number in
    let adds = subst (λ (es : List Edit). AddsCollection es c.put_collection.new.self name n) c.requires.none c.in_ok-put_collection.ensures.leads in
    target_new g.D.Disk.history name c.args.self.now c.catalogued.new.self (rw c.in_default.is at c.in_ok-home.ensures.looks) c.new_number.new.self
    (record { number = n; indexes = c.new.result }) c.in_ok-number.ensures.tries c.new.ensures.items c.put_collection.new.self adds

pub returns-clause-limits : goal.returns-clause-limits
returns-clause-limits g c = (c.in_ok-number.ensures.within.1, omega (arith, ap length c.new.ensures.items))
