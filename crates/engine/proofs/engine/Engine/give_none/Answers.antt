use Rattle.std.proofs.Common.{◌≡◌, List, [], length, refl, sym, ap, subst, arith}
use Rattle.std.proofs.lemmas.Result.{err_from_is_err_and}
use Rattle.bson.specs.Tree.{Pairs}
use Rattle.database_model.specs.Find.{given}
use Rattle.replies.specs.FirstBatch.{IsFirstBatch, IsNoBatch}
use Rattle.engine.specs.View.{world}
use Rattle.engine.proofs.Finding.{given_of_none}
use Rattle.engine.proofs.Running.{given_none, given_whole, table}
use Rattle.engine.proofs.engine.Engine.give_none.Goals as goal

pub returns-in_err-reply-clause-runs : goal.returns-in_err-reply-clause-runs
returns-in_err-reply-clause-runs g c =
    let w = world c.args.self.now in
    let gs = given c.args.query.now [] in
    let e = err_from_is_err_and c.from_residual.result c.from_residual.ensures.1 in
    let x = c.in_err-reply.field-0.0 in
    rw (e.1, e.2) (
      refl,
      given_none w c.args.connection c.args.namespace.now gs c.args.most x
          (subst (λ (es : List Pairs). IsNoBatch
          (table w c.args.connection c.args.namespace.now gs c.args.most) c.args.connection es c.args.most x) (sym (given_of_none c.args.query.now))
          c.in_err-reply.ensures.refuses),
    )

pub returns-clause-runs : goal.returns-clause-runs
returns-clause-runs g c =
    let w = world c.args.self.now in
    let gs = given c.args.query.now [] in
    given_whole w c.args.connection c.args.namespace.now gs c.args.most c.in_ok-reply.field-0-1 c.in_ok-reply.reply
    (subst (λ (es : List Pairs). IsFirstBatch
    (table w c.args.connection c.args.namespace.now gs c.args.most) c.args.connection c.args.namespace.now es c.args.most c.in_ok-reply.field-0-1
    c.in_ok-reply.reply) (sym (given_of_none c.args.query.now)) c.in_ok-reply.ensures.batch)
    (omega (arith, ap length (given_of_none c.args.query.now)))
