use Rattle.std.proofs.Common.{◌≡◌, ℕ, List, ⊎_elim, ap, length, inl, inr, false, true, refl, sym, subst, ◌∙◌, rules}
use Rattle.std.specs.Prelude.{Bool}
use Rattle.engine.specs.View.{world}
use Rattle.engine.specs.Durable.{disk_history}
use Rattle.opening.specs.Holding.{HoldsCollections}
use Rattle.server.specs.Causes.{IsCaused}
use Rattle.server.specs.History.{TakenBack}
use Rattle.server.specs.Moment.{Moment, FollowsInTurn}
use Rattle.page.specs.History.{History, KeepsWord}
use Rattle.page.specs.Crash.{CrashLeaves}
use Rattle.collections.specs.FreePages.{NamesFreePages}
use Rattle.trusted_disk.specs.Trusting.{trusted_history}
use Rattle.database_model.specs.World.{World}
use Rattle.engine.specs.Continuing.{Continues}
use Rattle.engine.proofs.Continuing.{continues_further, continues_itself, continues_still}
use Rattle.server.specs.Durable.{engine_moment, moment_of, is_stopped}
use Rattle.server.specs.declared.turn.TurnFault.TheVariants as turns
use Rattle.server.specs.Turn.{Cut, TurnFails, calls, faults, forget_all, connections_taken}
use Rattle.server.specs.declared.connection.Connection.{Connection}
use Rattle.path.specs.declared.refusal.Refusal.{Refusal}
use Rattle.path.specs.declared.refusal.Refusal.TheVariants as refusals
use Rattle.server.specs.Taking.{EndsTurn, RefusesAll, closed_connections, faults_in}
use Rattle.server.specs.View.{state, frames_in}
use Rattle.server.specs.ServerState.{ServerState, are_ascending}
use Rattle.server.proofs.Ascending.{taken_ascends, after_ascends}
use Rattle.server.proofs.Images.{engine_holds, stays, forgotten, forget_all_state}
use Rattle.server.proofs.CauseLemmas.{in_turn_itself, left_weaker, runs_weaker, wrote_weaker}
use Rattle.server.proofs.ConnectionsServed.{all_closed}
use Rattle.server.proofs.Refusing.{whole}
use Rattle.server.proofs.TurnParts.{turned, turned_once, handed_out, runs_and_hands_out}
use Rattle.server.proofs.turn.Core.turn.Goals as goal

stopped_not : (b : Bool) → b ≡ true → b ≡ false → ⊥
stopped_not b stopped runs = absurd cc

-- a turn that was ended, a moment after which nothing was done
ends_after : (before word : Type 0) → (word → before)
    → (undone : Moment → Refusal → Type 0) (world_was : World) (connections : List Connection) (given : List (ℕ × List ℕ)) (left : World)
    (start end later : Moment)
    → end ≡ later
    → EndsTurn before (IsCaused start end) (undone end) world_was start.generation connections given left end.generation
    → EndsTurn word (IsCaused start later) (undone later) world_was start.generation connections given left later.generation
ends_after before word kept undone world_was connections given left start end later same s = record {
  replies = s.replies;
  one_each = s.one_each;
  anyhow = s.anyhow;
  last = s.last;
  runs = λ k. runs_weaker (IsCaused start end) (IsCaused start later) wider (calls connections) world_was s.replies s.last (s.runs (kept k));
  ends = ⊎_elim
      (λ done. inl (
        done.0,
        done.1,
        record { once = ⊎_elim (λ left. inl left) (λ one. inr (counts ∙ one)) done.2.once; none = λ k wrote. counts ∙ done.2.none (kept k) wrote },
        λ k. ⊎_elim
            (λ left. inl (left_weaker (IsCaused start end) (IsCaused start later) wider (calls connections) world_was s.replies s.last (s.runs (kept k)) left))
            (λ one. inr (counts ∙ one)) (done.3 (kept k)),
        λ k none. counts ∙ done.4 (kept k)
            (wrote_weaker (IsCaused start end) (IsCaused start later) wider (calls connections) world_was s.replies s.last (s.runs (kept k)) none),
      ))
      (λ refused. inr (
        ⊎_elim (λ memory. inl (later_on refusals.OutOfMemory memory)) (λ room. inr (
          later_on refusals.Full room.0,
          λ k none. room.1 (kept k)
              (wrote_weaker (IsCaused start end) (IsCaused start later) wider (calls connections) world_was s.replies s.last (s.runs (kept k)) none),
        )) refused.0,
        refused.1,
        counts ∙ refused.2,
      ))
      s.ends;
}
  where
    counts : later.generation ≡ end.generation
    counts = ap (λ (m : Moment). m.generation) (sym same)

    wider : (planned : World) (r : Refusal) → IsCaused start end planned r → IsCaused start later planned r
    wider planned r = subst (λ (m : Moment). IsCaused start m planned r) same

    later_on : (r : Refusal) → RefusesAll before (undone end) connections given r → RefusesAll word (undone later) connections given r
    later_on r refused = (refused.0, λ k. subst (λ (m : Moment). undone m r) same (refused.1 (kept k)))

pub returns-then-is_stopped : goal.returns-then-is_stopped
returns-then-is_stopped g c = record {
  sound = search rules;
  turns = search rules;
  commits_once = tt;
  hands_out = tt;
  answers = tt;
  leaves = tt;
  fails = search rules;
  untouched = λ e. absurd cc;
  extends = search rules;
  any_moment = search rules;
  acknowledged = search rules;
  running = search rules;
  stops = search rules;
  idle = search rules;
  device = search rules;
  moment = in_turn_itself (moment_of g.D.Disk.history c.args.self.now);
  commits = tt;
  listed = tt;
  void = λ _. refl;
  quiet = λ _ _. continues_itself (trusted_history g.D.Disk.history) c.args.self.now.engine;
  uncommitted = refl;
  reads = λ _. continues_itself (trusted_history g.D.Disk.history) c.args.self.now.engine;
}

pub returns-in_err-refusals : goal.returns-in_err-refusals
returns-in_err-refusals g c = record {
  sound = search rules;
  turns = search rules;
  commits_once = search rules;
  hands_out = search rules;
  answers = search rules;
  leaves = search rules;
  fails = search rules;
  untouched = λ _. refl;
  extends = search rules;
  any_moment = let engine = c.args.self.now.engine in
      stays (trusted_history g.D.Disk.history) engine engine (λ image. HoldsCollections image (world engine).collections) c.requires.sound.engine
      c.requires.sound.idle refl;
  acknowledged = search rules;
  running = search rules;
  stops = search rules;
  idle = search rules;
  device = search rules;
  moment = in_turn_itself (moment_of g.D.Disk.history c.args.self.now);
  commits = search rules;
  listed = search rules;
  void = λ _. refl;
  quiet = λ _ _. continues_itself (trusted_history g.D.Disk.history) c.args.self.now.engine;
  uncommitted = search rules;
  reads = λ _. continues_itself (trusted_history g.D.Disk.history) c.args.self.now.engine;
}

pub returns-in_default : goal.returns-in_default
returns-in_default g c =
    let history = trusted_history g.D.Disk.history in
    let core = c.args.self.now in
    let ran = c.run_messages.ensures in
    let runs : is_stopped core ≡ false = sym c.is_stopped.ensures ∙ c.if-is_stopped.false in
    record {
      sound = record {
        engine = ran.sound;
        idle = ran.idle;
        rested = ran.rested;
        clean = ran.clean;
        ascending = ap are_ascending ran.taken ∙ taken_ascends core.connections.items c.requires.sound.ascending;
      };
      turns = search rules;
      commits_once = tt;
      hands_out = tt;
      answers = tt;
      leaves = tt;
      fails = let old : Moment = engine_moment history core.engine in
          let new : Moment = engine_moment history c.run_messages.new.engine in
          let after : ServerState = record { world = world c.run_messages.new.engine; connections = c.run_messages.new.connections.items } in
          let kept : Type 0 = KeepsWord (disk_history history c.run_messages.new.engine) in
          let cut : kept → Cut (IsCaused old new) (state core) after = λ k. let broke = c.in_default.ensures.breaks refl k in record {
            replies = broke.replies;
            last = broke.last;
            runs = broke.runs;
            leaves = λ i. record { world = broke.ends i; connections = ran.taken i };
          } in
          subst (λ (b : Bool). TurnFails kept (IsCaused old new) (state core) turns.Stopped b after) (sym runs) cut;
      untouched = λ e. absurd cc;
      extends = ran.extends;
      any_moment = λ _. ran.any_moment;
      acknowledged = search rules;
      running = search rules;
      stops = λ _. c.in_default.ensures.stops refl;
      idle = λ stopped. absurd (stopped_not (is_stopped core) stopped runs);
      device = λ _ k. inr (c.in_default.ensures.device refl k);
      moment = ran.moment;
      commits = tt;
      listed = tt;
      void = ran.void;
      quiet = ran.quiet;
      uncommitted = c.in_default.ensures.cut refl;
      reads = ran.reads;
    }

pub returns : goal.returns
returns g c =
    let history = trusted_history g.D.Disk.history in
    let core = c.args.self.now in
    let ran = c.run_messages.ensures in
    let forgot = c.forget_closed.ensures in
    let runs : is_stopped core ≡ false = sym c.is_stopped.ensures ∙ c.if-is_stopped.false in
    let connections = core.connections.items in
    let prepared = c.in_ok-refusals.field-0 in
    let closes : prepared.closed.items ≡ faults connections = search rules in
    let beside : prepared.faults.items ≡ faults_in connections = search rules in
    let forgets : world c.forget_closed.new.engine ≡ forget_all (world c.run_messages.new.engine) prepared.closed.items = search rules in
    let go_on : c.close_connections.new.connections ≡ closed_connections (connections_taken connections) (faults_in connections) = search rules in
    let long : length c.close_connections.new.connections ≡ c.run_messages.new.connections.len = search rules in
    let left = whole c.close_connections.new.connections _ c.run_messages.new.connections.len long ∙ go_on ∙ all_closed connections in
    let old : Moment = engine_moment history core.engine in
    let new : Moment = engine_moment history c.forget_closed.new.engine in
    let word : Type 0 = KeepsWord (disk_history history c.forget_closed.new.engine) in
    let frames = frames_in c.in-Some.replies.items in
    let settles =
    ends_after (KeepsWord (disk_history history c.run_messages.new.engine)) word (subst KeepsWord forgot.disk)
    (TakenBack old)
    (world core.engine) connections frames (world c.run_messages.new.engine) old
    (engine_moment history c.run_messages.new.engine) new
    (sym forgot.moment) c.in-Some.ensures.settles in
    let behind : Continues history core.engine c.run_messages.new.engine → Continues history core.engine c.forget_closed.new.engine =
    λ continues. continues_further history core.engine c.run_messages.new.engine c.forget_closed.new.engine continues
    (continues_still history c.run_messages.new.engine c.forget_closed.new.engine forgot.disk forgot.running
    (ap (λ (m : Moment). m.generation) forgot.moment) (ap (λ (m : Moment). m.failed_allocations) forgot.moment) forgot.reads) in
    record {
      sound = record {
        engine = forgot.sound;
        idle = forgot.idle;
        rested = forgot.rested;
        clean = forgot.has_changes ∙ ran.clean;
        ascending = ap are_ascending left ∙ after_ascends connections c.requires.sound.ascending;
      };
      turns = λ k. turned word (IsCaused old new) (TakenBack old new) core old.generation new.generation frames
          (world c.run_messages.new.engine) prepared.closed.items (world c.forget_closed.new.engine) _ settles closes forgets left k;
      commits_once = λ k. turned_once word (IsCaused old new) (TakenBack old new) core old.generation new.generation frames
          (world c.run_messages.new.engine) prepared.closed.items (world c.forget_closed.new.engine) _ settles closes forgets left k;
      hands_out = handed_out word (IsCaused old new) (TakenBack old new) core old.generation new.generation frames
          (world c.run_messages.new.engine) prepared.closed.items (world c.forget_closed.new.engine) _ settles closes forgets left;
      answers = runs_and_hands_out word (IsCaused old new) (TakenBack old new) core old.generation new.generation frames
          (world c.run_messages.new.engine) prepared.closed.items (world c.forget_closed.new.engine) _ settles closes forgets left;
      leaves = left;
      fails = search rules;
      untouched = λ e. absurd cc;
      extends = search rules;
      any_moment = λ _. let closed = prepared.closed.items in
          forgotten history core.engine c.run_messages.new.engine c.forget_closed.new.engine closed forgot.disk forgets ran.any_moment;
      acknowledged = λ running. engine_holds history c.forget_closed.new.engine forgot.sound forgot.idle (forgot.running ∙ c.in-Some.ensures.running ∙ running);
      running = λ _. forgot.running ∙ c.in-Some.ensures.running;
      stops = search rules;
      idle = λ stopped. absurd (stopped_not (is_stopped core) stopped runs);
      device = search rules;
      moment = subst (FollowsInTurn (engine_moment history core.engine)) (sym forgot.moment) ran.moment;
      commits = ⊎_elim
          (λ same. inl (ap (λ (w : World). w.collections) forgets ∙ forget_all_state (world c.run_messages.new.engine) prepared.closed.items ∙ same))
          (λ committed. inr (ap (λ (m : Moment). m.generation) forgot.moment ∙ committed))
          c.in-Some.ensures.commits;
      listed = λ more. subst (λ (h : History). CrashLeaves h NamesFreePages) (sym forgot.disk)
          (c.in-Some.ensures.listed (ap (λ (m : Moment). m.generation) (sym forgot.moment) ∙ more));
      void = λ none. forgot.disk ∙ ran.void none;
      quiet = λ k nothing. behind (ran.quiet (subst KeepsWord forgot.disk k) nothing);
      uncommitted = tt;
      reads = λ only. behind (ran.reads only);
    }
