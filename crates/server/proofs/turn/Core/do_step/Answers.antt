use Rattle.std.proofs.Common.{◌≡◌, ◌++◌, ◌+◌, sym, ap, subst, ◌∙◌, rules, refl}
use Rattle.std.specs.Prelude.{Result, Err}
use Rattle.server.specs.ServerState.{fed}
use Rattle.server.specs.declared.turn.TurnOut.{TurnOut}
use Rattle.server.specs.declared.turn.TurnFault.{TurnFault}
use Rattle.server.specs.declared.turn.TurnFault.TheVariants as turns
use Rattle.server.specs.declared.drive.DriveFault.{DriveFault}
use Rattle.server.specs.declared.drive.DriveFault.TheVariants as stops
use Rattle.server.specs.Moment.{Instant, FollowsInTurn}
use Rattle.server.specs.OneStep.{Goes}
use Rattle.server.specs.declared.drive.DriveOut.{DriveOut}
use Rattle.server.specs.View.{state, frames_in, out_of}
use Rattle.server.specs.Durable.{instant_of, moment_of}
use Rattle.server.specs.declared.step.Step.{Step}
use Rattle.server.proofs.Histories.{one_turn, bytes_on, gone_on, frames_append}
use Rattle.server.proofs.Addressing.{one_addressed}
use Rattle.server.proofs.CauseLemmas.{in_turn_itself}
use Rattle.server.proofs.Images.{unmoved, same_moment}
use Rattle.server.proofs.turn.Core.do_step.Goals as goal

pub returns-else-is_err-clause-as_planned : goal.returns-else-is_err-clause-as_planned
returns-else-is_err-clause-as_planned g c =
    let history = g.D.Disk.history in
    let first : Instant = instant_of history c.args.self.now in
    let last : Instant = instant_of history c.turn.new.self in
    let turn = c.in-Ok-turn.turn in
    let kept : c.append.new.self.items ≡ c.args.out.now.replies.items ++ turn.replies.items = search rules in
    let frames = frames_in turn.replies.items in
    let out : DriveOut = record { replies = c.append.new.self; turns = c.args.out.now.turns + 1; stopped = c.args.out.now.stopped } in
    subst (λ (s : Step). Goes first s c.args.out.now out last) (sym c.in-Turn.is)
    (record {
      frames = frames;
      happens = λ k. one_turn first last (out_of turn) (c.in-Ok-turn.ensures.turns k);
      addresses = one_addressed (state c.args.self.now) (out_of turn) (state c.turn.new.self).connections c.in-Ok-turn.ensures.hands_out
          c.in-Ok-turn.ensures.leaves;
      moment = refl;
      adds = record { replies = ap frames_in kept ∙ frames_append c.args.out.now.replies.items turn.replies.items; counted = refl; stopped = refl };
    })

pub returns-in-Err-Memory-clause-disk : goal.returns-in-Err-Memory-clause-disk
returns-in-Err-Memory-clause-disk g c = unmoved g.D.Disk.history c.args.self.now c.feed.new.self c.requires.sound c.feed.ensures.disk

pub returns-in-Err-Closed-clause-as_planned : goal.returns-in-Err-Closed-clause-as_planned
returns-in-Err-Closed-clause-as_planned g c =
    bytes_on c.args.step.now c.in-Bytes.id c.in-Bytes.chunk c.args.out.now (instant_of g.D.Disk.history c.args.self.now)
    (instant_of g.D.Disk.history c.feed.new.self) c.in-Bytes.is
    (c.in-Err-Closed.ensures.fed (λ e. absurd cc) ∙ ap (fed (state c.args.self.now) c.in-Bytes.id) c.deref.ensures.value)
    (same_moment g.D.Disk.history c.args.self.now c.feed.new.self c.feed.ensures.file)

pub returns-in-Err-Closed-clause-disk : goal.returns-in-Err-Closed-clause-disk
returns-in-Err-Closed-clause-disk g c = unmoved g.D.Disk.history c.args.self.now c.feed.new.self c.requires.sound c.feed.ensures.disk

pub returns-in-Ok-clause-as_planned : goal.returns-in-Ok-clause-as_planned
returns-in-Ok-clause-as_planned g c =
    bytes_on c.args.step.now c.in-Bytes.id c.in-Bytes.chunk c.args.out.now (instant_of g.D.Disk.history c.args.self.now)
    (instant_of g.D.Disk.history c.feed.new.self) c.in-Bytes.is
    (c.in-Ok.ensures.fed (λ e. absurd cc) ∙ ap (fed (state c.args.self.now) c.in-Bytes.id) c.deref.ensures.value)
    (same_moment g.D.Disk.history c.args.self.now c.feed.new.self c.feed.ensures.file)

pub returns-in-Ok-clause-disk : goal.returns-in-Ok-clause-disk
returns-in-Ok-clause-disk g c = unmoved g.D.Disk.history c.args.self.now c.feed.new.self c.requires.sound c.feed.ensures.disk

pub returns-in-Gone-clause-as_planned : goal.returns-in-Gone-clause-as_planned
returns-in-Gone-clause-as_planned g c =
    gone_on c.args.step.now c.in-Gone.id c.args.out.now (instant_of g.D.Disk.history c.args.self.now)
    (instant_of g.D.Disk.history c.gone.new.self) c.in-Gone.is c.gone.ensures.state
    c.gone.ensures.moment

pub returns-in-Gone-clause-disk : goal.returns-in-Gone-clause-disk
returns-in-Gone-clause-disk g c = unmoved g.D.Disk.history c.args.self.now c.gone.new.self c.requires.sound c.gone.ensures.disk

pub returns-then-is_err-clause-disk : goal.returns-then-is_err-clause-disk
returns-then-is_err-clause-disk g c = record {
  extends = c.turn.ensures.extends;
  any_moment = c.turn.ensures.any_moment;
  idle = λ stop. (c.turn.ensures.idle stop).1;
}

pub returns-else-is_err-clause-disk : goal.returns-else-is_err-clause-disk
returns-else-is_err-clause-disk g c = record {
  extends = c.turn.ensures.extends;
  any_moment = c.turn.ensures.any_moment;
  idle = λ stop. (c.turn.ensures.idle stop).1;
}

pub returns-in-Err-clause-disk : goal.returns-in-Err-clause-disk
returns-in-Err-clause-disk g c = record {
  extends = c.turn.ensures.extends;
  any_moment = c.turn.ensures.any_moment;
  idle = λ stop. (c.turn.ensures.idle stop).1;
}

pub returns-then-is_err-clause-running : goal.returns-then-is_err-clause-running
returns-then-is_err-clause-running g c _ = c.in-Ok-turn.ensures.running (λ e. absurd cc)

pub returns-else-is_err-clause-running : goal.returns-else-is_err-clause-running
returns-else-is_err-clause-running g c _ = c.in-Ok-turn.ensures.running (λ e. absurd cc)

abbrev handed : TurnFault → Result TurnOut TurnFault
handed fault = Err fault

abbrev failed : DriveFault → Result (Unit {0}) DriveFault
failed fault = Err fault

inner : (fault : TurnFault) → failed (stops.Turn fault) ≡ failed (stops.Turn turns.Stopped) → handed fault ≡ handed turns.Stopped
inner turns.Stopped e = refl
inner turns.Memory e = absurd cc

outer : (fault : TurnFault) → handed fault ≡ handed turns.Stopped → failed (stops.Turn fault) ≡ failed (stops.Turn turns.Stopped)
outer turns.Stopped e = refl
outer turns.Memory e = absurd cc

pub returns-in-Err-clause-device : goal.returns-in-Err-clause-device
returns-in-Err-clause-device g c is = c.in-Err.ensures.device (inner c.in-Err.fault is)

pub returns-in-Err-clause-running : goal.returns-in-Err-clause-running
returns-in-Err-clause-running g c other = c.in-Err.ensures.running (λ is. other (outer c.in-Err.fault is))

pub returns-in-Err-Memory-clause-moment : goal.returns-in-Err-Memory-clause-moment
returns-in-Err-Memory-clause-moment g c =
    subst (FollowsInTurn (moment_of g.D.Disk.history c.args.self.now)) (sym (same_moment g.D.Disk.history c.args.self.now c.feed.new.self c.feed.ensures.file))
    (in_turn_itself (moment_of g.D.Disk.history c.args.self.now))

pub returns-in-Err-Closed-clause-moment : goal.returns-in-Err-Closed-clause-moment
returns-in-Err-Closed-clause-moment g c =
    subst (FollowsInTurn (moment_of g.D.Disk.history c.args.self.now)) (sym (same_moment g.D.Disk.history c.args.self.now c.feed.new.self c.feed.ensures.file))
    (in_turn_itself (moment_of g.D.Disk.history c.args.self.now))

pub returns-in-Ok-clause-moment : goal.returns-in-Ok-clause-moment
returns-in-Ok-clause-moment g c =
    subst (FollowsInTurn (moment_of g.D.Disk.history c.args.self.now)) (sym (same_moment g.D.Disk.history c.args.self.now c.feed.new.self c.feed.ensures.file))
    (in_turn_itself (moment_of g.D.Disk.history c.args.self.now))

pub returns-in-Gone-clause-moment : goal.returns-in-Gone-clause-moment
returns-in-Gone-clause-moment g c =
    subst (FollowsInTurn (moment_of g.D.Disk.history c.args.self.now)) (sym c.gone.ensures.moment)
    (in_turn_itself (moment_of g.D.Disk.history c.args.self.now))
