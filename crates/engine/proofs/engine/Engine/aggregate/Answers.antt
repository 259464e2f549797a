use Rattle.std.proofs.Common.{ap, subst, Result, Vec, Global}
use Rattle.std.specs.Prelude.{All, IfOk}
use Rattle.std.proofs.lemmas.Result.{err_from_is_err_and}
use Rattle.bson.specs.Tree.{Pairs}
use Rattle.pipelines.specs.View.{pipeline_of}
use Rattle.database_model.specs.Aggregate.{run_aggregate}
use Rattle.database_model.specs.Lawful.{IsWithin}
use Rattle.database_model.specs.World.{documents_of}
use Rattle.path.specs.declared.refusal.Refusal.{Refusal}
use Rattle.queries.specs.Piping.{Pipes}
use Rattle.engine.specs.View.{world}
use Rattle.engine.proofs.GivingLemmas.{gives_behind, refuses_planned}
use Rattle.engine.proofs.LookingLemmas.{performs_refused}
use Rattle.engine.proofs.Piping.{none_of_lawful}
use Rattle.engine.proofs.Running.{asked_of, run_aggregate-is, run_aggregate-refused}
use Rattle.engine.proofs.engine.Engine.aggregate.Goals as goal

pub returns-in_err-piped-clause-performs : goal.returns-in_err-piped-clause-performs
returns-in_err-piped-clause-performs g c =
    let w = world c.args.self.now in
    let p = err_from_is_err_and c.from_residual.result c.from_residual.ensures.1 in
    rw (p.1, p.2)
    (performs_refused g.D.Disk.history c.args.self.now c.piped.new.self
    (run_aggregate w c.args.connection (asked_of w c.args.connection c.args.namespace.now (pipeline_of c.args.pipeline.now) c.args.most))
    c.in_err-piped.field-0.0 c.in_err-piped.ensures.looks.reads c.in_err-piped.ensures.looks.answers)

pub returns-in_err-given-clause-performs : goal.returns-in_err-given-clause-performs
returns-in_err-given-clause-performs g c =
    let w = world c.args.self.now in
    let name = c.args.namespace.now in
    let stages = pipeline_of c.args.pipeline.now in
    let looks = c.in_ok-piped.ensures.looks in
    let p = err_from_is_err_and c.from_residual-in_err-given.result c.from_residual-in_err-given.ensures.1 in
    rw (p.1, p.2)
    (refuses_planned g.D.Disk.history c.args.self.now c.piped.new.self
    (run_aggregate w c.args.connection (asked_of w c.args.connection name stages c.args.most))
    c.in_err-given.field-0.0 looks.reads (λ k other.
    run_aggregate-refused w c.args.connection name stages c.args.most c.in_err-given.field-0.0
    (subst (λ (given : Result (Vec Pairs Global) Refusal). Pipes stages given (documents_of w.collections name)) c.in_err-given.was (looks.answers k)
    (none_of_lawful w.collections name c.requires.sound.lawful) other)))

pub returns-clause-performs : goal.returns-clause-performs
returns-clause-performs g c =
    let w = world c.args.self.now in
    let name = c.args.namespace.now in
    let stages = pipeline_of c.args.pipeline.now in
    let looks = c.in_ok-piped.ensures.looks in
    let given = c.in_ok-given.given.items in
    gives_behind g.D.Disk.history c.args.self.now c.piped.new.self c.give_all.new.self looks.reads c.give_all.ensures.file
    (ap (λ t. t.value) c.give_all.ensures.told) c.give_all.ensures.has_changes
    c.args.connection name given c.args.most
    (run_aggregate w c.args.connection (asked_of w c.args.connection name stages c.args.most)) c.give_all.result
    c.requires.short
    (subst (λ (r : Result (Vec Pairs Global) Refusal). IfOk r (λ v. All IsWithin v.items)) c.in_ok-given.was c.in_ok-piped.ensures.within)
    c.give_all.ensures.runs
    (λ k. run_aggregate-is w c.args.connection name stages c.args.most given
    (subst (λ (r : Result (Vec Pairs Global) Refusal). Pipes stages r (documents_of w.collections name)) c.in_ok-given.was (looks.answers k)
    (none_of_lawful w.collections name c.requires.sound.lawful)))
