use Rattle.std.proofs.Common.{◌≡◌, IfOk, sym, ◌∙◌, subst}
use Rattle.driver_replies.specs.Tallies.{refused}
use Rattle.drivers.specs.declared.plan.Plan.{Plan}
use Rattle.drivers.specs.declared.plan.Wait.{Wait}
use Rattle.drivers.specs.declared.plan.Wait.TheVariants as waits
use Rattle.drivers.specs.declared.step.Step.{Step}
use Rattle.drivers.specs.Answering.{changed}
use Rattle.drivers.proofs.ChangedLemmas.{changed_alike}
use Rattle.drivers.proofs.plan.Plan.answer.Goals as goal

pub returns-in-Changed : goal.returns-in-Changed
returns-in-Changed c =
    let same : (w : Wait) → changed (refused c.args.reply) (record c.args.self.now { wait = w }) c.in-Changed.modification c.in-Changed.was c.args.reply
    ≡ changed (refused c.args.reply) c.args.self.now c.in-Changed.modification c.in-Changed.was c.args.reply =
    λ w. changed_alike (refused c.args.reply) c.args.self.now w c.in-Changed.modification c.in-Changed.was c.args.reply in
    rw (sym c.replace.ensures.value ∙ c.in-Changed.is)
    (subst (λ (x : Plan × Step). IfOk c.changed.result (λ s. (c.changed.new.self, s) ≡ x))
    (same c.replace.new.dest ∙ sym (same (waits.Changed c.in-Changed.modification c.in-Changed.was))) c.changed.ensures)
