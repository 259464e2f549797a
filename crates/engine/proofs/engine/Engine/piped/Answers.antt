use Rattle.std.proofs.Common.{List, Result, Vec, Global, refl, subst, sym}
use Rattle.std.specs.Prelude.{All}
use Rattle.std.proofs.lemmas.List.Elements.{All-nil}
use Rattle.std.proofs.lemmas.Result.{err_from_is_err_and}
use Rattle.bson.specs.Tree.{Pairs}
use Rattle.pipelines.specs.View.{pipeline_of}
use Rattle.database_model.specs.Lawful.{IsWithin}
use Rattle.database_model.specs.World.{documents_of}
use Rattle.path.specs.declared.refusal.Refusal.{Refusal}
use Rattle.asked_documents.specs.Asking.{IsAsked}
use Rattle.queries.specs.Piping.{Pipes}
use Rattle.queries.proofs.PipingLemmas.{outcome_within}
use Rattle.engine.proofs.CataloguedLemmas.{IsCatalogueOf}
use Rattle.engine.proofs.LookingLemmas.{looks_refused, looks_so_of}
use Rattle.engine.proofs.NamedLemmas.{asked_at_home, of_home, of_no_home}
use Rattle.engine.proofs.engine.Engine.piped.Goals as goal

pub returns-clause-looks : goal.returns-clause-looks
returns-clause-looks g c =
    let history = g.D.Disk.history in
    let stages = pipeline_of c.args.pipeline.now in
    let mid = c.catalogued.new.self in
    let new = record mid { file = c.piped_in.new.file } in
    let sound = c.in_ok-home.ensures.looks.reads.sound in
    let home = c.in-Some.home in
    of_home history c.args.namespace.now c.args.self.now mid (λ ds (given : Result (Vec Pairs Global) Refusal). Pipes stages given ds)
    c.in_ok-home.field-0 c.in_ok-home.ensures.looks new home c.in-Some.is c.piped_in.result
    (asked_at_home history home mid new (λ now of (given : Result (Vec Pairs Global) Refusal). Pipes stages given of.documents) c.piped_in.result sound
    (looks_so_of history mid new sound refl refl refl (IsAsked home)
    (λ now of (given : Result (Vec Pairs Global) Refusal). Pipes stages given of.documents) c.piped_in.result c.piped_in.ensures.reads))

pub returns-in_err-home-clause-looks : goal.returns-in_err-home-clause-looks
returns-in_err-home-clause-looks g c =
    let stages = pipeline_of c.args.pipeline.now in
    let p = err_from_is_err_and c.from_residual.result c.from_residual.ensures.1 in
    rw (p.1, p.2) (looks_refused g.D.Disk.history (IsCatalogueOf c.args.namespace.now) c.args.self.now c.catalogued.new.self
    (λ now (given : Result (Vec Pairs Global) Refusal). Pipes stages given (documents_of now c.args.namespace.now)) c.in_err-home.field-0.0
    c.in_err-home.ensures.looks)

pub returns-in_default-clause-looks : goal.returns-in_default-clause-looks
returns-in_default-clause-looks g c =
    let stages = pipeline_of c.args.pipeline.now in
    of_no_home g.D.Disk.history c.args.namespace.now c.args.self.now c.catalogued.new.self
    (λ ds (given : Result (Vec Pairs Global) Refusal). Pipes stages given ds) c.in_ok-home.field-0 c.in_ok-home.ensures.looks c.in_default.is c.run.result
    (subst (Pipes stages c.run.result) c.new.ensures.items (λ fault. c.run.ensures))

pub returns-in_default-clause-within : goal.returns-in_default-clause-within
returns-in_default-clause-within g c =
    outcome_within (pipeline_of c.args.pipeline.now) c.new.result.items c.run.result
    (subst (All IsWithin) (sym c.new.ensures.items) (All-nil IsWithin)) (λ fault. c.run.ensures)
