use Rattle.std.proofs.Common.{◌≡◌, List, ap, ◌∙◌}
use Rattle.command_model.specs.Find.{Query}
use Rattle.index.specs.Definition.{Definition}
use Rattle.plan_model.specs.Plan.{choose}
use Rattle.planner.specs.View.{plan_of}
use Rattle.engine.proofs.ExplainingLemmas.{explain_done, explain_missing}
use Rattle.engine.proofs.engine.Engine.explain.Goals as goal

pub returns-in_default-clause-performs : goal.returns-in_default-clause-performs
returns-in_default-clause-performs g c =
    explain_missing g.D.Disk.history c.args.namespace.now c.args.query.now c.args.self.now c.catalogued.new.self
    (rw c.in_default.is at c.in_ok-home.ensures.looks) c.in_ok-plan_reply.field-0 c.in_ok-plan_reply.ensures.reply

pub returns-clause-performs : goal.returns-clause-performs
returns-clause-performs g c =
    let home = c.in-Some.home in
    let chosen : plan_of c.choose-plan.result ≡ choose c.args.query.now.filter c.args.query.now.sort home.indexes.items =
    c.choose-plan.ensures
    ∙ ap (λ (is : List Definition). choose c.query.inside.filter c.query.inside.sort is) c.deref.ensures.value
    ∙ ap (λ (q : Query). choose q.filter q.sort home.indexes.items) c.query.view_is in
    explain_done g.D.Disk.history c.args.namespace.now c.args.query.now c.args.self.now c.catalogued.new.self home
    (rw c.in-Some.is at c.in_ok-home.ensures.looks) (plan_of c.choose-plan.result) chosen c.in_ok-plan_reply-2.field-0 c.in_ok-plan_reply-2.ensures.reply
