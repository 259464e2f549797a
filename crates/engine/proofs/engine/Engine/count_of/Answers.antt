use Rattle.std.proofs.Common.{◌≡◌, ℕ, length, refl}
use Rattle.std.proofs.lemmas.Result.{err_from_is_err_and}
use Rattle.database_model.specs.Find.{matching}
use Rattle.database_model.specs.World.{documents_of}
use Rattle.asked_documents.specs.Asking.{IsAsked}
use Rattle.engine.proofs.CataloguedLemmas.{IsCatalogueOf}
use Rattle.engine.proofs.LookingLemmas.{looks_refused, looks_so_of}
use Rattle.engine.proofs.NamedLemmas.{asked_at_home, of_home, of_no_home}
use Rattle.engine.proofs.engine.Engine.count_of.Goals as goal

pub returns : goal.returns
returns g c =
    let history = g.D.Disk.history in
    let rules = c.args.filter.now in
    let mid = c.catalogued.new.self in
    let new = record mid { file = c.count_in.new.file } in
    let sound = c.in_ok-home.ensures.looks.reads.sound in
    let home = c.in-Some.home in
    of_home history c.args.namespace.now c.args.self.now mid (λ ds (count : ℕ). count ≡ length (matching rules ds))
    c.in_ok-home.field-0 c.in_ok-home.ensures.looks new home c.in-Some.is c.count_in.result
    (asked_at_home history home mid new (λ now of (count : ℕ). count ≡ length (matching rules of.documents)) c.count_in.result sound
    (looks_so_of history mid new sound refl refl refl (IsAsked home)
    (λ now of (count : ℕ). count ≡ length (matching rules of.documents)) c.count_in.result c.count_in.ensures))

pub returns-in_err-home : goal.returns-in_err-home
returns-in_err-home g c =
    let p = err_from_is_err_and c.from_residual.result c.from_residual.ensures.1 in
    rw (p.1, p.2) (looks_refused g.D.Disk.history (IsCatalogueOf c.args.namespace.now) c.args.self.now c.catalogued.new.self
    (λ now (count : ℕ). count
    ≡ length (matching c.args.filter.now (documents_of now c.args.namespace.now))) c.in_err-home.field-0.0 c.in_err-home.ensures.looks)

pub returns-in_default : goal.returns-in_default
returns-in_default g c =
    of_no_home g.D.Disk.history c.args.namespace.now c.args.self.now c.catalogued.new.self (λ ds (count : ℕ). count ≡ length (matching c.args.filter.now ds))
    c.in_ok-home.field-0 c.in_ok-home.ensures.looks c.in_default.is 0 refl
