use Rattle.std.proofs.Common.{Vec, Global, refl, ap, ◌∙◌, arith}
use Rattle.std.proofs.lemmas.Result.{err_from_is_err_and}
use Rattle.bson.specs.Tree.{Pairs}
use Rattle.statements.specs.Redoing.{all_taken}
use Rattle.engine.specs.Removing.{IsTaken}
use Rattle.engine.proofs.CataloguedLemmas.{IsCatalogueOf}
use Rattle.engine.proofs.LookingLemmas.{looks_memory, looks_refused}
use Rattle.engine.proofs.TakenLemmas.{AreMeant, meant_found, takes_meant, takes_none}
use Rattle.engine.proofs.engine.Engine.taken.Goals as goal

pub returns-in_err-home : goal.returns-in_err-home
returns-in_err-home g c =
    let name = c.args.namespace.now in
    let ds = c.args.deletions.now in
    let p = err_from_is_err_and c.from_residual.result c.from_residual.ensures.1 in
    rw (p.1, p.2)
    (looks_refused g.D.Disk.history (IsCatalogueOf name) c.args.self.now c.catalogued.new.self
    (λ now t. IsTaken now name ds t) c.in_err-home.field-0.0 c.in_err-home.ensures.looks)

pub returns-in_default : goal.returns-in_default
returns-in_default g c =
    takes_none g.D.Disk.history c.args.namespace.now c.args.deletions.now c.args.self.now c.catalogued.new.self c.in_ok-home.field-0 c.in_ok-home.ensures.looks
    c.in_default.is
    c.none_taken.result c.none_taken.ensures

pub returns-in_err-found : goal.returns-in_err-found
returns-in_err-found g c =
    let name = c.args.namespace.now in
    let ds = c.args.deletions.now in
    let home = c.in-Some.home in
    let p = err_from_is_err_and c.from_residual-in_err-found.result c.from_residual-in_err-found.ensures.1 in
    rw (p.1, p.2)
    (looks_refused g.D.Disk.history (λ now (found : Vec Pairs Global). AreMeant name ds c.enough.result home now found.items) c.args.self.now
    c.selected.new.self
    (λ now t. IsTaken now name ds t) c.in_err-found.field-0.0
    (meant_found g.D.Disk.history name ds c.args.self.now c.catalogued.new.self c.in_ok-home.field-0 c.in_ok-home.ensures.looks
    c.enough.result c.selected.new.self home c.in-Some.is _ c.in_err-found.ensures.looks))

pub returns-in_err-left : goal.returns-in_err-left
returns-in_err-left g c =
    let name = c.args.namespace.now in
    let ds = c.args.deletions.now in
    let looks = meant_found g.D.Disk.history name ds c.args.self.now c.catalogued.new.self c.in_ok-home.field-0 c.in_ok-home.ensures.looks
    c.enough.result c.selected.new.self c.in-Some.home c.in-Some.is c.selected.result c.selected.ensures.looks in
    let p = err_from_is_err_and c.from_residual-in_err-left.result c.from_residual-in_err-left.ensures.1 in
    rw p.1 (looks_memory g.D.Disk.history (λ now t. IsTaken now name ds t) c.args.self.now c.selected.new.self p.0 p.2 looks.reads)

pub returns : goal.returns
returns g c =
    let name = c.args.namespace.now in
    let ds = c.args.deletions.now in
    let home = c.in-Some.home in
    let found = c.in_ok-found.found in
    let left = c.in_ok-left.left in
    takes_meant g.D.Disk.history name ds c.args.self.now c.selected.new.self c.enough.result c.enough.ensures home found
    (record { home = home; removed = left.removed })
    (meant_found g.D.Disk.history name ds c.args.self.now c.catalogued.new.self c.in_ok-home.field-0 c.in_ok-home.ensures.looks
    c.enough.result c.selected.new.self home c.in-Some.is _ c.in_ok-found.ensures.looks)
    (omega (arith, found.ok.0, found.ok.1, found.small)) refl (c.in_ok-left.ensures.removed ∙ ap (all_taken ds) c.deref.ensures.value)
