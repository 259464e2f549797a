use Rattle.std.proofs.Common.{None, arith, refl, rules}
use Rattle.server.proofs.Histories.{starts, step_on, stops_at, ends}
use Rattle.server.proofs.turn.Core.drive.Goals as goal

pub steps-init : goal.steps-init
steps-init g c =
    starts g.D.Disk.history c.args.self.now c.args.steps.now (record { replies = c.new.result; turns = 0; stopped = None })
    (search rules) refl refl c.requires.sound

pub returns-in-Err-clause-drives : goal.returns-in-Err-clause-drives
returns-in-Err-clause-drives g c =
    let call = c.do_step in
    stops_at g.D.Disk.history c.args.self.now c.args.steps.now c.steps.i c.index-steps-i.result c.steps.out c.steps.self c.steps-test.true c.index-steps-i.is
    c.steps.invariant c.in-Err.fault call.new.out call.new.self c.in-Err.ensures.as_planned call.ensures.sound call.ensures.disk call.ensures.moment
    c.in-Err.ensures.running c.in-Err.ensures.device

pub steps-preserved : goal.steps-preserved
steps-preserved g c =
    let call = c.do_step in
    step_on g.D.Disk.history c.args.self.now c.args.steps.now c.steps.i c.index-steps-i.result c.steps.out c.steps.self c.steps-test.true c.index-steps-i.is
    c.steps.invariant call.new.out call.new.self c.in_default.ensures.as_planned call.ensures.sound call.ensures.disk call.ensures.moment
    (c.in_default.ensures.running (λ e. absurd cc))

pub returns-clause-drives : goal.returns-clause-drives
returns-clause-drives g c = ends g.D.Disk.history c.args.self.now c.args.steps.now c.steps.i c.steps.out c.steps.self (omega arith) c.steps.invariant
