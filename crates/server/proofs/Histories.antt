-- How a run over a list of steps goes on, and how it ends.
use Rattle.std.proofs.Common.{◌≡◌, inl, inr, ⊎_elim, ℕ, ◌+◌, ◌≤◌, ◌<◌, List, [], ◌∷◌, ◌++◌, length, take, get_or, slice_get, refl, sym, ◌∙◌, ap, subst, arith}
use Rattle.std.proofs.Common.{append_assoc, append-nil}
use Rattle.std.proofs.lemmas.List.{take_more, take_all}
use Rattle.std.proofs.lemmas.Option.{slice_get_read}
use Rattle.std.specs.Prelude.{◌⊎◌, ◌≢◌, Result, Option, Some, None, Err, Vec, Bool, true}
use Rattle.std.specs.Global.{Global}
use Rattle.page.specs.History.{History, KeepsWord}
use Rattle.page.specs.Crash.{ExtendsHistory, CrashLeaves}
use Rattle.page.proofs.Moments.{goes_nowhere, goes_further, leaves_now}
use Rattle.entry_model.specs.State.{Collection}
use Rattle.opening.specs.Holding.{HoldsCollections}
use Rattle.server.specs.ServerState.{ServerState, fed, ended}
use Rattle.server.specs.Turn.{Out, Turns, TurnFails}
use Rattle.server.specs.Moment.{Moment, TurnEnd, Instant, end_at, last_collections, last_moment, FollowsInTurn, FollowInOrder, HoldsEither, LeavesInOrder}
use Rattle.server.specs.Causes.{IsCaused}
use Rattle.server.specs.History.{Happens, TakenBack, turns_in}
use Rattle.server.specs.Addressed.{Addresses, Addressed, steps_done}
use Rattle.server.specs.View.{state, frames_in}
use Rattle.server.specs.Durable.{disk_history, is_stopped, IsRunning, IsSound, collections_of, clock_of, moment_of, instant_of, GoesSafely}
use Rattle.server.specs.OneStep.{Adds, Goes, Does, ends_of}
use Rattle.server.specs.Headline.{Drives, Ends, IsStopped, turns_done}
use Rattle.server.specs.declared.connection.Connection.{Connection}
use Rattle.server.specs.declared.turn.Core.{Core}
use Rattle.server.specs.declared.turn.TurnFault.{TurnFault}
use Rattle.server.specs.declared.turn.TurnFault.TheVariants as turns
use Rattle.server.specs.declared.step.Step.{Step}
use Rattle.server.specs.declared.step.Step.TheVariants as steps
use Rattle.server.specs.declared.connection.FeedFault.TheVariants as feeds
use Rattle.server.specs.declared.drive.DriveFault.{DriveFault}
use Rattle.server.specs.declared.drive.DriveFault.TheVariants as stops
use Rattle.server.specs.declared.drive.DriveOut.{DriveOut}
use Rattle.server.proofs.Addressing.{addresses_on}
use Rattle.server.proofs.CauseLemmas.{in_turn_itself, follow_end, follow_on}
use Rattle.server.proofs.Images.{holds_now}
use Rattle.server.proofs.Order.{in_order_on, in_order_turned, moved_between}

abbrev Frames : Type 0
Frames = List (ℕ × List ℕ)

-- one history and then another
pub happens_on : (first : List Step) (later : List Step) (at : Moment) (a b c : ServerState) (given others : Frames) (ends more : List TurnEnd)
    → Happens at a first given ends b → Happens (last_moment at ends) b later others more c → Happens at a (first ++ later) (given ++ others) (ends ++ more) c
happens_on [] later at a b c given others ends more h k =
    subst (λ (fs : Frames). Happens at a later (fs ++ others) (ends ++ more) c) (sym h.0)
    (subst (λ (es : List TurnEnd). Happens (last_moment at es) b later others more c → Happens at a later others (es ++ more) c) (sym h.1)
    (λ whole. subst (λ (s : ServerState). Happens at s later others more c) h.2 whole) k)
happens_on (steps.Bytes id chunk ∷ first) later at a b c given others ends more h k =
    happens_on first later at (fed a id chunk.items) b c given others ends more h k
happens_on (steps.Gone id ∷ first) later at a b c given others ends more h k = happens_on first later at (ended a id) b c given others ends more h k
happens_on (steps.Turn ∷ first) later at a b c given others ends more h k = (
  h.0,
  h.1,
  h.2 ++ others,
  h.3,
  h.4 ++ more,
  h.5,
  h.6,
  ap (λ (fs : Frames). fs ++ others) h.7 ∙ append_assoc h.1.replies h.2 others,
  ap (λ (es : List TurnEnd). es ++ more) h.8,
  happens_on first later h.3.at h.0 b c h.2 others h.4 more h.9 (subst (λ (es : List TurnEnd). Happens (last_moment at es) b later others more c) h.8 k),
)

-- the collections at the end of a history
pub collections_after : (all : List Step) (at : Moment) (a b : ServerState) (given : Frames) (ends : List TurnEnd) → Happens at a all given ends b
    → b.world.collections ≡ last_collections a.world.collections ends
collections_after [] at a b given ends h = ap (λ (s : ServerState). s.world.collections) h.2 ∙ sym (ap (last_collections a.world.collections) h.1)
collections_after (steps.Bytes id chunk ∷ later) at a b given ends h = collections_after later at (fed a id chunk.items) b given ends h
collections_after (steps.Gone id ∷ later) at a b given ends h = collections_after later at (ended a id) b given ends h
collections_after (steps.Turn ∷ later) at a b given ends h =
    collections_after later h.3.at h.0 b h.2 h.4 h.9 ∙ ap (λ (cs : List Collection). last_collections cs h.4) (sym h.6)
    ∙ sym (ap (last_collections a.world.collections) h.8)

turns_in-append : (first later : List Step) → turns_in (first ++ later) ≡ turns_in first + turns_in later
turns_in-append [] later = omega arith
turns_in-append (steps.Bytes id chunk ∷ first) later = turns_in-append first later
turns_in-append (steps.Gone id ∷ first) later = turns_in-append first later
turns_in-append (steps.Turn ∷ first) later = omega (arith, turns_in-append first later)

one_at_most : (step : Step) → turns_in (step ∷ []) ≤ 1
one_at_most (steps.Bytes id chunk) = omega arith
one_at_most (steps.Gone id) = omega arith
one_at_most steps.Turn = omega arith

pub one_turn : (first last : Instant) (out : Out)
    → Turns (IsCaused first.moment last.moment) (TakenBack first.moment last.moment) first.state out last.state
    → Happens first.moment first.state (steps.Turn ∷ []) out.replies (end_at last ∷ []) last.state
one_turn first last out turns = (last.state, out, [], end_at last, [], turns, refl, sym (append-nil out.replies), refl, (refl, refl, refl))

pub frames_append : {Z : Type 0} (xs ys : List (ℕ × Vec ℕ Z)) → frames_in (xs ++ ys) ≡ frames_in xs ++ frames_in ys
frames_append [] ys = refl
frames_append (x ∷ xs) ys = ap (λ (fs : Frames). (x.0, x.1.items) ∷ fs) (frames_append xs ys)

abbrev connections_in : ServerState → List Connection
connections_in x = x.connections

-- a step that hands out nothing
adds_nothing : (out : DriveOut) → Adds [] 0 out out
adds_nothing out = record { replies = sym (append-nil (frames_in out.replies.items)); counted = omega arith; stopped = refl }

pub bytes_on : (step : Step) (id : ℕ) (chunk : Vec ℕ Global) (out : DriveOut) (a b : Instant) → step ≡ steps.Bytes id chunk
    → b.state ≡ fed a.state id chunk.items → b.moment ≡ a.moment → Goes a step out out b
bytes_on step id chunk out a b is new same =
    subst (λ (s : Step). Goes a s out out b) (sym is) (record {
      frames = [];
      happens = λ k. (refl, refl, new);
      addresses = (refl, ap connections_in new);
      moment = same;
      adds = adds_nothing out;
    })

pub gone_on : (step : Step) (id : ℕ) (out : DriveOut) (a b : Instant) → step ≡ steps.Gone id
    → b.state ≡ ended a.state id → b.moment ≡ a.moment → Goes a step out out b
gone_on step id out a b is new same =
    subst (λ (s : Step). Goes a s out out b) (sym is) (record {
      frames = [];
      happens = λ k. (refl, refl, new);
      addresses = (refl, ap connections_in new);
      moment = same;
      adds = adds_nothing out;
    })

last_moment-append : (first : Moment) (ends more : List TurnEnd) → last_moment first (ends ++ more) ≡ last_moment (last_moment first ends) more
last_moment-append first [] more = refl
last_moment-append first (e ∷ later) more = last_moment-append e.at later more

pub last_collections-append : (first : List Collection) (ends more : List TurnEnd)
    → last_collections first (ends ++ more) ≡ last_collections (last_collections first ends) more
last_collections-append first [] more = refl
last_collections-append first (e ∷ later) more = last_collections-append e.collections later more

-- What the loop over the steps keeps: so many steps were done, and it has not stopped.
pub record SoFar {D : Type 0} (history : D → History) (first : Core D) (all : List Step) (i : ℕ) (out : DriveOut) (now : Core D) : Type 0 where
  pub ends : List TurnEnd
  pub happens : KeepsWord (disk_history history now)
      → Happens (moment_of history first) (state first) (take i all) (frames_in out.replies.items) ends (state now)
  pub addresses : Addresses (state first).connections (take i all) (frames_in out.replies.items) (state now).connections
  pub moment : moment_of history now ≡ last_moment (moment_of history first) ends
  pub counted : out.turns ≡ turns_in (take i all)
  pub bound : out.turns ≤ i
  pub runs : out.stopped ≡ None
  pub sound : IsSound history now
  pub extends : ExtendsHistory (disk_history history first) (disk_history history now)
  pub moments : FollowInOrder (moment_of history first) ends (moment_of history now)
  pub running : is_stopped now ≡ is_stopped first
  pub in_order : IsRunning first → KeepsWord (disk_history history now)
      → LeavesInOrder (disk_history history now) (clock_of history first) (collections_of first) ends (collections_of now)
  pub idle : is_stopped first ≡ true → disk_history history now ≡ disk_history history first

pub starts : {D : Type 0} (history : D → History) (first : Core D) (all : List Step) (out : DriveOut) → out.replies.items ≡ [] → out.turns ≡ 0
    → out.stopped ≡ None → IsSound history first → SoFar history first all 0 out first
starts history first all out nothing none continues sound = record {
  ends = [];
  happens = λ k. (ap frames_in nothing, refl, refl);
  addresses = (ap frames_in nothing, refl);
  moment = refl;
  counted = none;
  bound = omega (arith, none);
  runs = continues;
  sound = sound;
  extends = goes_nowhere (disk_history history first);
  moments = in_turn_itself (moment_of history first);
  running = refl;
  in_order = λ running keeps. (
    omega arith,
    moved_between (disk_history history first) (HoldsEither (collections_of first) (collections_of first))
        (λ image here. inl (holds_now history first sound running keeps image here)),
  );
  idle = λ _. refl;
}

pub ends : {D : Type 0} (history : D → History) (first : Core D) (all : List Step) (i : ℕ) (out : DriveOut) (now : Core D) → length all ≤ i
    → SoFar history first all i out now → Drives history first all out now
ends history first all i out now whole s =
    let every : take i all ≡ all = take_all i all whole in
    let same : KeepsWord (disk_history history now)
    → collections_of now ≡ last_collections (collections_of first) s.ends =
    λ k. collections_after (take i all) (moment_of history first) (state first) (state now) (frames_in out.replies.items) s.ends (s.happens k) in
    record {
      given = frames_in out.replies.items;
      ends = s.ends;
      happens = subst
          (λ (stop : Option (ℕ × DriveFault)). Ends (instant_of history first) (is_stopped first) all stop (frames_in out.replies.items) s.ends
          (instant_of history now)) (sym s.runs)
          (λ k. subst (λ (steps : List Step). Happens (moment_of history first) (state first) steps (frames_in out.replies.items) s.ends (state now)) every
          (s.happens k));
      frames = refl;
      bytes = λ _. refl;
      addressed = record {
        left = (state now).connections;
        addresses = subst (λ (xs : List Step). Addresses (state first).connections xs (frames_in out.replies.items) (state now).connections)
            (every ∙ sym (ap (λ (stop : Option (ℕ × DriveFault)). steps_done stop all) s.runs)) s.addresses;
        whole = λ _. refl;
      };
      turns = s.counted ∙ ap turns_in every ∙ sym (ap (λ (stop : Option (ℕ × DriveFault)). turns_done stop all) s.runs);
      extends = s.extends;
      moments = s.moments;
      in_order = s.in_order;
      at_end = λ running continues k image is. subst (HoldsCollections image) (same k) (holds_now history now s.sound (s.running ∙ running) k image is);
      at_stop = λ running k image is. inr (holds_now history now s.sound (s.running ∙ running) k image is);
      idle = s.idle;
      running = λ _. s.running;
      device = λ stop. absurd (subst IsStopped s.runs stop);
    }

module _ {D : Type 0} (history : D → History) (first : Core D) (all : List Step) (i : ℕ) (step : Step) (old : DriveOut) (now : Core D)
    (within : i < length all) (is : step ≡ get_or all i step) (s : SoFar history first all i old now) where
  taken : take (i + 1) all ≡ take i all ++ step ∷ []
  taken = take_more all i step within ∙ ap (λ (y : Step). take i all ++ y ∷ []) (sym is)

  same_now : KeepsWord (disk_history history now) → collections_of now ≡ last_collections (collections_of first) s.ends
  same_now k = collections_after (take i all) (moment_of history first) (state first) (state now) (frames_in old.replies.items) s.ends (s.happens k)

  idle_on : (last : Core D) → GoesSafely history now last → is_stopped first ≡ true → disk_history history last ≡ disk_history history first
  idle_on last safe stop = safe.idle (s.running ∙ stop) ∙ s.idle stop

  -- what a crash leaves up to the end of a step after which no turn has answered
  order_on : (last : Core D) → GoesSafely history now last → IsRunning first → KeepsWord (disk_history history last)
      → LeavesInOrder (disk_history history last) (clock_of history first) (collections_of first) s.ends (collections_of last)
  order_on last safe running keeps =
      in_order_on (disk_history history now) (disk_history history last) (clock_of history first) (collections_of first) s.ends (collections_of now)
      (collections_of last)
      safe.extends keeps (same_now (safe.extends.kept keeps)) (safe.any_moment (s.running ∙ running)) (s.in_order running (safe.extends.kept keeps))

  -- what a crash leaves up to the end of a turn that answered
  order_turned : (last : Core D) → GoesSafely history now last
      → (IsRunning first → CrashLeaves (disk_history history last) (λ image. HoldsCollections image (collections_of last)))
      → IsRunning first → KeepsWord (disk_history history last)
      → LeavesInOrder (disk_history history last) (clock_of history first) (collections_of first) (s.ends ++ end_at (instant_of history last) ∷ [])
      (collections_of last)
  order_turned last safe holds running keeps =
      in_order_turned (disk_history history now) (disk_history history last) (clock_of history first) (collections_of first) s.ends (collections_of now)
      (end_at (instant_of history last)) refl
      safe.extends keeps (same_now (safe.extends.kept keeps)) (safe.any_moment (s.running ∙ running)) (holds running keeps)
      (s.in_order running (safe.extends.kept keeps))

  -- by the step: a turn has one end more, another none
  order_by : (x : Step) (last : Core D) (new : DriveOut) → Goes (instant_of history now) x old new (instant_of history last) → GoesSafely history now last
      → (IsRunning first → CrashLeaves (disk_history history last) (λ image. HoldsCollections image (collections_of last)))
      → IsRunning first → KeepsWord (disk_history history last)
      → LeavesInOrder (disk_history history last) (clock_of history first) (collections_of first) (s.ends ++ ends_of x (instant_of history last))
      (collections_of last)
  order_by steps.Turn last new continues safe holds running keeps = order_turned last safe holds running keeps
  order_by (steps.Bytes id chunk) last new continues safe holds running keeps =
      subst (λ (es : List TurnEnd). LeavesInOrder (disk_history history last) (clock_of history first) (collections_of first) es (collections_of last))
      (sym (append-nil s.ends)) (order_on last safe running keeps)
  order_by (steps.Gone id) last new continues safe holds running keeps =
      subst (λ (es : List TurnEnd). LeavesInOrder (disk_history history last) (clock_of history first) (collections_of first) es (collections_of last))
      (sym (append-nil s.ends)) (order_on last safe running keeps)

  -- a step after which no turn has answered
  follow_still : (last : Core D) → FollowsInTurn (moment_of history now) (moment_of history last)
      → FollowInOrder (moment_of history first) s.ends (moment_of history last)
  follow_still last turn = follow_on (moment_of history first) s.ends (moment_of history now) (moment_of history last) s.moment s.moments turn

  follow_turned : (last : Core D) → FollowsInTurn (moment_of history now) (moment_of history last)
      → FollowInOrder (moment_of history first) (s.ends ++ end_at (instant_of history last) ∷ []) (moment_of history last)
  follow_turned last turn = follow_end (moment_of history first) s.ends (moment_of history now) s.moment s.moments (end_at (instant_of history last)) turn

  follow_by : (x : Step) (last : Core D) → FollowsInTurn (moment_of history now) (moment_of history last)
      → FollowInOrder (moment_of history first) (s.ends ++ ends_of x (instant_of history last)) (moment_of history last)
  follow_by steps.Turn last turn = follow_turned last turn
  follow_by (steps.Bytes id chunk) last turn =
      subst (λ (es : List TurnEnd). FollowInOrder (moment_of history first) es (moment_of history last)) (sym (append-nil s.ends)) (follow_still last turn)
  follow_by (steps.Gone id) last turn =
      subst (λ (es : List TurnEnd). FollowInOrder (moment_of history first) es (moment_of history last)) (sym (append-nil s.ends)) (follow_still last turn)

  pub step_on : (new : DriveOut) (last : Core D) → Goes (instant_of history now) step old new (instant_of history last) → IsSound history last
      → GoesSafely history now last
      → FollowsInTurn (moment_of history now) (moment_of history last) → is_stopped last ≡ is_stopped now → SoFar history first all (i + 1) new last
  step_on new last continues sound safe turn same =
      let more : List TurnEnd = ends_of step (instant_of history last) in
      let next : KeepsWord (disk_history history last)
      → Happens (last_moment (moment_of history first) s.ends) (state now) (step ∷ []) continues.frames more (state last) =
      λ k. subst (λ (at : Moment). Happens at (state now) (step ∷ []) continues.frames more (state last)) s.moment (continues.happens k) in
      let happens : KeepsWord (disk_history history last)
      → Happens (moment_of history first) (state first) (take (i + 1) all) (frames_in old.replies.items ++ continues.frames) (s.ends ++ more) (state last) =
      λ k. subst (λ (xs : List Step). Happens (moment_of history first) (state first) xs (frames_in old.replies.items ++ continues.frames) (s.ends ++ more)
      (state last)) (sym taken)
      (happens_on (take i all) (step ∷ []) (moment_of history first) (state first) (state now) (state last)
      (frames_in old.replies.items) continues.frames s.ends more (s.happens (safe.extends.kept k)) (next k)) in
      record {
        ends = s.ends ++ more;
        happens = λ k. subst (λ (fs : Frames). Happens (moment_of history first) (state first) (take (i + 1) all) fs (s.ends ++ more) (state last))
            (sym continues.adds.replies) (happens k);
        addresses = subst (λ (xs : List Step). Addresses (state first).connections xs (frames_in new.replies.items) (state last).connections) (sym taken)
            (subst (λ (fs : Frames). Addresses (state first).connections (take i all ++ step ∷ []) fs (state last).connections) (sym continues.adds.replies)
            (addresses_on (take i all) (step ∷ []) (state first).connections (state now).connections (state last).connections
            (frames_in old.replies.items) continues.frames s.addresses continues.addresses));
        moment = continues.moment ∙ ap (λ (at : Moment). last_moment at more) s.moment ∙ sym (last_moment-append (moment_of history first) s.ends more);
        counted = omega (arith, s.counted, continues.adds.counted, ap turns_in taken, turns_in-append (take i all) (step ∷ []));
        bound = omega (arith, s.bound, continues.adds.counted, one_at_most step);
        runs = continues.adds.stopped ∙ s.runs;
        sound = sound;
        extends = goes_further (disk_history history first) (disk_history history now) (disk_history history last) s.extends safe.extends;
        moments = follow_by step last turn;
        running = same ∙ s.running;
        in_order = order_by step last new continues safe (λ running. holds_now history last sound (same ∙ s.running ∙ running));
        idle = idle_on last safe;
      }

  abbrev failing : DriveFault → Result (Unit {0}) DriveFault
  failing fault = Err fault

  -- the run as it stands where it stops
  abbrev stopped_at : DriveFault → DriveOut → DriveOut
  stopped_at fault new = record new { stopped = Some (i, fault) }

  module _ (new : DriveOut) (turns : ℕ) (adds : Adds [] turns old new) where
    kept : frames_in new.replies.items ≡ frames_in old.replies.items
    kept = adds.replies ∙ append-nil (frames_in old.replies.items)

    before : KeepsWord (disk_history history now)
        → Happens (moment_of history first) (state first) (take i all) (frames_in new.replies.items) s.ends (state now)
    before k = subst (λ (fs : Frames). Happens (moment_of history first) (state first) (take i all) fs s.ends (state now)) (sym kept) (s.happens k)

    -- a run that stops here, by its fault and what it leaves
    addressed : (fault : DriveFault) (last : List Connection)
        → Addressed (state first).connections all (Some (i, fault)) (frames_in new.replies.items) last
    addressed fault last = record {
      left = (state now).connections;
      addresses = subst (λ (fs : Frames). Addresses (state first).connections (take i all) fs (state now).connections) (sym kept) s.addresses;
      whole = λ none. absurd cc;
    }

    at : (x : Step) → step ≡ x → slice_get all i ≡ Some x
    at x e = slice_get_read all (length all) i step refl within is ∙ ap (λ (y : Step). some y) e
      where
        some : Step → Option Step
        some y = Some y

  -- a step that changed nothing
  module _ (last : Core D) (sound : IsSound history last) (safe : GoesSafely history now last) (same : state last ≡ state now)
      (runs : is_stopped last ≡ is_stopped now) where
    end_same : IsRunning first → CrashLeaves (disk_history history last) (λ image. HoldsCollections image (last_collections (collections_of first) s.ends))
    end_same running k image is =
        subst (HoldsCollections image) (ap (λ (x : ServerState). x.world.collections) same ∙ same_now (safe.extends.kept k))
        (holds_now history last sound (runs ∙ s.running ∙ running) k image is)

  stop_now : (last : Core D) → GoesSafely history now last → IsRunning first
      → CrashLeaves (disk_history history last) (HoldsEither (last_collections (collections_of first) s.ends) (collections_of last))
  stop_now last safe running k image here = ⊎_elim
      (λ holds. inl (subst (HoldsCollections image) (same_now (safe.extends.kept k)) holds))
      (λ holds. inr holds)
      (leaves_now (disk_history history now) (disk_history history last) (HoldsEither (collections_of now) (collections_of last)) safe.extends
      (safe.any_moment (s.running ∙ running)) k image here)

  -- a turn that handed out nothing, from the moment of the last one that answered
  failed_turn : (fault : TurnFault) (last : Core D)
      → TurnFails (KeepsWord (disk_history history last)) (IsCaused (moment_of history now) (moment_of history last)) (state now) fault (is_stopped now)
      (state last)
      → TurnFails (KeepsWord (disk_history history last)) (IsCaused (last_moment (moment_of history first) s.ends) (moment_of history last)) (state now) fault
      (is_stopped first) (state last)
  failed_turn fault last fails =
      subst (λ (m : Moment). TurnFails (KeepsWord (disk_history history last)) (IsCaused m (moment_of history last)) (state now) fault (is_stopped first)
      (state last)) s.moment
      (subst (λ (b : Bool). TurnFails (KeepsWord (disk_history history last)) (IsCaused (moment_of history now) (moment_of history last)) (state now) fault b
      (state last)) s.running fails)

  pub stops_at : (fault : DriveFault) (new : DriveOut) (last : Core D)
      → Does (instant_of history now) step old (Err fault) (is_stopped now) new (instant_of history last) → IsSound history last → GoesSafely history now last
      → FollowsInTurn (moment_of history now) (moment_of history last)
      → (failing fault ≢ failing (stops.Turn turns.Stopped) → is_stopped last ≡ is_stopped now)
      → (failing fault ≡ failing (stops.Turn turns.Stopped) → KeepsWord (disk_history history last)
      → (is_stopped now ≡ true) ⊎ ((disk_history history now).failed_writes < (disk_history history last).failed_writes))
      → Drives history first all (stopped_at fault new) last
  stops_at (stops.Feed feeds.Memory) new last as_planned sound safe turn runs cause = record {
    given = frames_in new.replies.items;
    ends = s.ends;
    happens = (
      (as_planned.0.0, as_planned.0.1, at new 0 as_planned.1 _ as_planned.0.2),
      λ k. subst (λ (x : ServerState). Happens (moment_of history first) (state first) (take i all) (frames_in new.replies.items) s.ends x) (sym as_planned.2)
          (before new 0 as_planned.1 (safe.extends.kept k)),
    );
    frames = refl;
    bytes = λ _. refl;
    addressed = addressed new 0 as_planned.1 (stops.Feed feeds.Memory) (state last).connections;
    turns = omega (arith, as_planned.1.counted, s.counted);
    extends = goes_further (disk_history history first) (disk_history history now) (disk_history history last) s.extends safe.extends;
    moments = follow_still last turn;
    in_order = order_on last safe;
    at_end = λ running continues. end_same last sound safe as_planned.2 (runs (λ e. absurd cc)) running;
    at_stop = stop_now last safe;
    idle = idle_on last safe;
    running = λ _. runs (λ e. absurd cc) ∙ s.running;
    device = λ stop. absurd stop;
  }
  stops_at (stops.Feed feeds.Closed) new last as_planned sound safe turn runs cause = absurd as_planned
  stops_at (stops.Turn turns.Memory) new last as_planned sound safe turn runs cause = record {
    given = frames_in new.replies.items;
    ends = s.ends;
    happens = (
      at new 0 as_planned.1 _ as_planned.0,
      record { before = state now; happens = λ k. before new 0 as_planned.1 (safe.extends.kept k); turn = failed_turn turns.Memory last as_planned.2 },
    );
    frames = refl;
    bytes = λ _. refl;
    addressed = addressed new 0 as_planned.1 (stops.Turn turns.Memory) (state last).connections;
    turns = omega (arith, as_planned.1.counted, s.counted);
    extends = goes_further (disk_history history first) (disk_history history now) (disk_history history last) s.extends safe.extends;
    moments = follow_still last turn;
    in_order = order_on last safe;
    at_end = λ running continues. end_same last sound safe
        (subst (λ (b : Bool). TurnFails (KeepsWord (disk_history history last)) (IsCaused (moment_of history now) (moment_of history last))
        (state now) turns.Memory b (state last)) (s.running ∙ running) as_planned.2) (runs (λ e. absurd cc)) running;
    at_stop = stop_now last safe;
    idle = idle_on last safe;
    running = λ _. runs (λ e. absurd cc) ∙ s.running;
    device = λ stop. absurd stop;
  }
  stops_at (stops.Turn turns.Stopped) new last as_planned sound safe turn runs cause = record {
    given = frames_in new.replies.items;
    ends = s.ends;
    happens = (
      at new 0 as_planned.1 _ as_planned.0,
      record { before = state now; happens = λ k. before new 0 as_planned.1 (safe.extends.kept k); turn = failed_turn turns.Stopped last as_planned.2 },
    );
    frames = refl;
    bytes = λ _. refl;
    addressed = addressed new 0 as_planned.1 (stops.Turn turns.Stopped) (state last).connections;
    turns = omega (arith, as_planned.1.counted, s.counted);
    extends = goes_further (disk_history history first) (disk_history history now) (disk_history history last) s.extends safe.extends;
    moments = follow_still last turn;
    in_order = order_on last safe;
    at_end = λ running continues. absurd (continues tt);
    at_stop = stop_now last safe;
    idle = idle_on last safe;
    running = λ continues. absurd (continues tt);
    device = λ stop k. ⊎_elim
        (λ stopped_now. inl (sym s.running ∙ stopped_now))
        (λ failed. inr (omega (arith, s.extends.failed_writes (safe.extends.kept k), failed)))
        (cause refl k);
  }
  stops_at stops.Gather new last as_planned sound safe turn runs cause =
      let end : TurnEnd = end_at (instant_of history last) in
      let whole : collections_of last ≡ last_collections (collections_of first) (s.ends ++ end ∷ []) =
      sym (last_collections-append (collections_of first) s.ends (end ∷ [])) in
      let now_holds : IsRunning first → CrashLeaves (disk_history history last) (λ image. HoldsCollections image (collections_of last)) =
      λ running. holds_now history last sound (runs (λ e. absurd cc) ∙ s.running ∙ running) in
      record {
        given = frames_in new.replies.items;
        ends = s.ends ++ end ∷ [];
        happens = (
          at new 1 as_planned.adds _ as_planned.is,
          record {
            before = state now;
            earlier = s.ends;
            lost = as_planned.lost;
            happens = λ k. before new 1 as_planned.adds (safe.extends.kept k);
            turn = λ k. subst
                (λ (m : Moment). Turns (IsCaused m (moment_of history last)) (TakenBack m (moment_of history last)) (state now) as_planned.lost
                (state last)) s.moment
                (as_planned.turn k);
            counted = refl;
          },
        );
        frames = refl;
        bytes = λ _. refl;
        addressed = addressed new 1 as_planned.adds stops.Gather (state last).connections;
        turns = omega (arith, as_planned.adds.counted, s.counted);
        extends = goes_further (disk_history history first) (disk_history history now) (disk_history history last) s.extends safe.extends;
        moments = follow_turned last turn;
        in_order = order_turned last safe now_holds;
        at_end = λ running continues. subst (λ (x : List Collection). CrashLeaves (disk_history history last) (λ image. HoldsCollections image x)) whole
            (now_holds running);
        at_stop = λ running k image is. inr (now_holds running k image is);
        idle = idle_on last safe;
        running = λ _. runs (λ e. absurd cc) ∙ s.running;
        device = λ stop. absurd stop;
      }
