-- How a turn ends, behind its messages.
use Rattle.std.proofs.Common.{◌≡◌, inl, inr, ℕ, List, [], ◌++◌, refl, sym, ap, ◌∙◌, arith}
use Rattle.std.specs.Prelude.{Bool, true, false, Result, Ok, Err, Some, None, Vec}
use Rattle.std.specs.Global.{Global}
use Rattle.page.specs.History.{History, KeepsWord}
use Rattle.page.specs.Crash.{ExtendsHistory}
use Rattle.roots.specs.declared.store.CommitFault.{CommitFault}
use Rattle.roots.specs.declared.store.CommitFault.TheVariants as faults
use Rattle.entry_model.specs.State.{Collection}
use Rattle.database_model.specs.World.{World, are_untouched, after_undo}
use Rattle.engine.specs.View.{world, turn_start}
use Rattle.engine.specs.Committing.{CommitsTurn}
use Rattle.engine.specs.Continuing.{Continues}
use Rattle.engine.specs.Durable.{disk_history, failed_reads_of, failed_allocations_of, generation, has_changes, is_stopped, IsRunning, IsSound}
use Rattle.engine.specs.declared.engine.Engine.{Engine}
use Rattle.engine.proofs.Continuing.{continues_further, continues_still}
use Rattle.path.specs.declared.refusal.Refusal.{Refusal}
use Rattle.path.specs.declared.refusal.Refusal.TheVariants as refusals
use Rattle.server.specs.Causes.{IsCaused, OfAnyCause}
use Rattle.server.specs.History.{TakenBack}
use Rattle.server.specs.Moment.{Follows, FollowsInTurn}
use Rattle.server.specs.Durable.{engine_moment}
use Rattle.server.specs.Messages.{RunsMessages}
use Rattle.server.specs.Turn.{AllRead, ChangeNothing, LeftAll, LeftCollections, Runs, WroteNone, calls, connections_taken, frames_of, refused_frames}
use Rattle.server.specs.Taking.{Serves}
use Rattle.server.specs.View.{frames_in}
use Rattle.server.specs.declared.connection.Connection.{Connection}
use Rattle.server.proofs.CauseLemmas.{commit_follows, undo_follows, turn_follows, commits_once, had_changes, idle_commit, quiet_commit, room_ran_out}
use Rattle.server.proofs.CauseLemmas.{any_cause, cause_over, changed_none, left_weaker, runs_weaker, wrote_weaker}
use Rattle.server.proofs.Images.{unwritten, unwritten_on, then_on, moved, moved_back, failed_further, on_same}

abbrev Frames : Type 0
Frames = List (ℕ × List ℕ)

abbrev Given : Type 0
Given = Vec (ℕ × Vec ℕ Global) Global

-- with what a turn begins
pub record Begins {D : Type 0} (history : D → History) (engine : Engine D) : Type 0 where
  pub sound : IsSound history engine
  pub running : IsRunning engine
  pub idle : turn_start engine ≡ (world engine).collections
  pub clean : has_changes engine ≡ false

-- what the messages of a turn leave to its end
pub record Served {D : Type 0} (history : D → History) (old mid : Engine D) (ok : Bool) (given now : Frames) (connections : List Connection) : Type 0 where
  pub continues : Continues history old mid
  pub sound : IsSound history mid
  pub start : turn_start mid ≡ turn_start old
  pub serves : Serves (KeepsWord (disk_history history mid)) (IsCaused (engine_moment history old) (engine_moment history mid))
      (has_changes mid ≡ has_changes old) (has_changes mid ≡ false) (calls connections) (world old) (world mid) ok given now
  pub reads : AllRead (calls connections) → has_changes mid ≡ has_changes old
  pub idle : calls connections ≡ [] → mid ≡ old

abbrev failed : CommitFault → Result (Unit {0}) CommitFault
failed fault = Err fault

never : (fault : CommitFault) → failed fault ≡ Ok tt → ⊥
never fault e = absurd cc

module _ {D : Type 0} (history : D → History) (old mid new : Engine D) (b : Begins history old) (connections left : List Connection) (ok : Bool)
    (given now : Frames) (s : Served history old mid ok given now connections) (took : left ≡ connections_taken connections) where
  abbrev cause : Refusal → Type 0
  cause = TakenBack (engine_moment history old) (engine_moment history new)

  abbrev early : World → Refusal → Type 0
  early = IsCaused (engine_moment history old) (engine_moment history mid)

  abbrev whole : World → Refusal → Type 0
  whole = IsCaused (engine_moment history old) (engine_moment history new)

  before : turn_start mid ≡ (world old).collections
  before = s.start ∙ b.idle

  -- what the messages were answered, by the causes of the whole turn
  ran : Follows (engine_moment history mid) (engine_moment history new) → KeepsWord (disk_history history new)
      → Runs whole (world old) (calls connections) s.serves.replies (world mid)
  ran after k = runs_weaker early whole (cause_over history old mid new s.continues after) (calls connections) (world old) s.serves.replies (world mid)
      (s.serves.runs (after.word k))

  -- where none of them wrote anything, nothing has changed
  wrote_none : (after : Follows (engine_moment history mid) (engine_moment history new)) (k : KeepsWord (disk_history history new))
      → WroteNone whole (world old) (calls connections) s.serves.replies (world mid) (ran after k) → has_changes mid ≡ has_changes old
  unfolding ran
  wrote_none after k none = s.serves.wrote (after.word k)
      (wrote_weaker early whole (cause_over history old mid new s.continues after) (calls connections) (world old) s.serves.replies (world mid)
      (s.serves.runs (after.word k)) none)

  -- where all of them left the collections as they were
  left_all : (after : Follows (engine_moment history mid) (engine_moment history new)) (k : KeepsWord (disk_history history new))
      → has_changes mid ≡ false → LeftAll whole (world old) (calls connections) s.serves.replies (world mid) (ran after k)
  unfolding ran
  left_all after k clean = left_weaker early whole (cause_over history old mid new s.continues after) (calls connections) (world old) s.serves.replies
      (world mid)
      (s.serves.runs (after.word k)) (s.serves.left_all (after.word k) clean)

  changed_nothing : KeepsWord (disk_history history mid) → ChangeNothing OfAnyCause (world old) (calls connections) → has_changes mid ≡ has_changes old
  changed_nothing k nothing = s.serves.wrote k
      (changed_none early OfAnyCause (any_cause (engine_moment history old) (engine_moment history mid)) (calls connections) (world old) s.serves.replies
      (world mid) (s.serves.runs k) nothing)

  -- the turn is taken back
  back_to : world new ≡ after_undo (turn_start mid) (world mid) → world new ≡ after_undo (world old).collections (world mid)
  back_to back = back ∙ ap (λ (cs : List Collection). after_undo cs (world mid)) before

  same_again : world new ≡ after_undo (turn_start mid) (world mid) → (world new).collections ≡ (world old).collections
  same_again back = ap (λ (w : World). w.collections) back ∙ before

  -- memory ran out for a reply
  pub undone : (frames : Given) → frames_in frames.items ≡ refused_frames refusals.OutOfMemory connections → IsSound history new
      → disk_history history new ≡ disk_history history mid → is_stopped new ≡ is_stopped mid → generation new ≡ generation mid
      → failed_allocations_of history new ≡ failed_allocations_of history mid → failed_reads_of history new ≡ failed_reads_of history mid
      → world new ≡ after_undo (turn_start mid) (world mid)
      → turn_start new ≡ (world new).collections → has_changes new ≡ false → are_untouched (world new).cursors ≡ true
      → RunsMessages history old connections (Some frames) new left
  undone frames are sound disk running version takes reads back ended clean rested =
      let after = undo_follows history mid new (on_same (disk_history history mid) (disk_history history new) disk) takes version in
      let continues = continues_further history old mid new s.continues (continues_still history mid new disk running version takes reads) in
      record {
        sound = sound;
        settles = record {
          replies = s.serves.replies;
          one_each = s.serves.one_each;
          anyhow = s.serves.anyhow;
          last = world mid;
          runs = ran after;
          ends = inr (inl (are, λ k. version ∙ s.continues.version), back_to back, version ∙ s.continues.version);
        };
        breaks = λ none. absurd cc;
        taken = took;
        idle = ended;
        clean = clean;
        rested = rested;
        extends = unwritten_on history old mid new b.sound b.running b.idle s.continues disk;
        any_moment = unwritten history old mid new b.sound b.running b.idle s.continues disk;
        running = running ∙ s.continues.running;
        stops = λ none. absurd cc;
        device = λ none. absurd cc;
        moment = turn_follows history old mid new s.continues (after, omega (arith, version));
        commits = inl (same_again back);
        listed = λ more. absurd (omega (arith, more, version, s.continues.version));
        cut = λ none. absurd cc;
        quiet = λ _ _. continues;
        reads = λ _. continues;
        void = λ none. disk ∙ ap (disk_history history) (s.idle none);
      }

  -- what a commit leaves, however it ends
  module _ (r : Result (Unit {0}) CommitFault) (c : CommitsTurn history r mid new) where
    after : Follows (engine_moment history mid) (engine_moment history new)
    after = (commit_follows history mid new r c).0

    goes_on : ExtendsHistory (disk_history history old) (disk_history history new)
    goes_on = then_on history old mid new b.sound b.running b.idle s.continues c.extends

    unchanged : has_changes mid ≡ has_changes old → Continues history old new
    unchanged same = continues_further history old mid new s.continues (quiet_commit history mid new r (same ∙ b.clean) c)

    quiet_so : KeepsWord (disk_history history new) → ChangeNothing OfAnyCause (world old) (calls connections) → Continues history old new
    quiet_so k nothing = unchanged (changed_nothing (c.extends.kept k) nothing)

    moment_so : FollowsInTurn (engine_moment history old) (engine_moment history new)
    moment_so = turn_follows history old mid new s.continues (commit_follows history mid new r c)

    void_so : calls connections ≡ [] → disk_history history new ≡ disk_history history old
    void_so none = idle_commit history old mid new r b.clean (s.idle none) c

  -- what the turn changed is durable
  pub done : (frames : Given) → ok ≡ true → given ≡ [] → frames_in frames.items ≡ now → CommitsTurn history (Ok tt) mid new
      → RunsMessages history old connections (Some frames) new left
  done frames fine none are c = record {
    sound = c.sound;
    settles = record {
      replies = s.serves.replies;
      one_each = s.serves.one_each;
      anyhow = s.serves.anyhow;
      last = world mid;
      runs = ran (after (Ok tt) c);
      ends = inl (
        are ∙ s.serves.frames fine ∙ ap (λ (fs : Frames). fs ++ frames_of (calls connections) s.serves.replies) none,
        c.done,
        record {
          once = commits_once history old mid new (LeftCollections (world old) (calls connections) s.serves.replies (world mid) s.serves.anyhow)
              (has_changes mid) refl s.serves.left s.continues c.version;
          none = λ k wrote. (unchanged (Ok tt) c (s.serves.wrote_none (c.extends.kept k) wrote)).version;
        },
        λ k. commits_once history old mid new (LeftAll whole (world old) (calls connections) s.serves.replies (world mid) (ran (after (Ok tt) c) k))
            (has_changes mid) refl (left_all (after (Ok tt) c) k) s.continues c.version,
        λ k none. (unchanged (Ok tt) c (wrote_none (after (Ok tt) c) k none)).version,
      );
    };
    breaks = λ e. absurd cc;
    taken = took;
    idle = c.ended;
    clean = c.clean;
    rested = c.rested;
    extends = goes_on (Ok tt) c;
    any_moment = moved history old mid new b.sound b.running b.idle s.continues c.extends s.start c.done (c.any_moment (s.continues.running ∙ b.running));
    running = c.running (λ e. absurd cc) ∙ s.continues.running;
    stops = λ e. absurd cc;
    device = λ e. absurd cc;
    moment = moment_so (Ok tt) c;
    commits = commits_once history old mid new ((world new).collections ≡ (world old).collections) (has_changes mid) refl
        (λ clean. ap (λ (w : World). w.collections) c.done ∙ sym (s.sound.quiet clean) ∙ before) s.continues c.version;
    listed = λ more. c.listed (s.continues.running ∙ b.running) (had_changes history old mid new (has_changes mid) refl s.continues c.version more);
    cut = λ e. absurd cc;
    quiet = quiet_so (Ok tt) c;
    reads = λ only. unchanged (Ok tt) c (s.reads only);
    void = void_so (Ok tt) c;
  }

  -- the commit found no memory
  pub no_memory : (frames : Given) → frames_in frames.items ≡ refused_frames refusals.OutOfMemory connections → CommitsTurn history (Err faults.Memory) mid new
      → RunsMessages history old connections (Some frames) new left
  no_memory frames are c = record {
    sound = c.sound;
    settles = record {
      replies = s.serves.replies;
      one_each = s.serves.one_each;
      anyhow = s.serves.anyhow;
      last = world mid;
      runs = ran (after (Err faults.Memory) c);
      ends = inr (inl (are, λ k. c.version ∙ s.continues.version), back_to (c.memory refl), c.version ∙ s.continues.version);
    };
    breaks = λ e. absurd cc;
    taken = took;
    idle = c.ended;
    clean = c.clean;
    rested = c.rested;
    extends = goes_on (Err faults.Memory) c;
    any_moment = moved_back history old mid new b.sound b.running b.idle s.continues c.extends s.start
        (c.kept (s.continues.running ∙ b.running) (λ e. absurd cc));
    running = c.running (λ e. absurd cc) ∙ s.continues.running;
    stops = λ e. absurd cc;
    device = λ e. absurd cc;
    moment = moment_so (Err faults.Memory) c;
    commits = inl (same_again (c.memory refl));
    listed = λ more. absurd (omega (arith, more, c.version, s.continues.version));
    cut = λ e. absurd cc;
    quiet = quiet_so (Err faults.Memory) c;
    reads = λ only. unchanged (Err faults.Memory) c (s.reads only);
    void = void_so (Err faults.Memory) c;
  }

  -- it found no room, so a message has written something
  no_room_cause : CommitsTurn history (Err faults.Full) mid new → KeepsWord (disk_history history new) → cause refusals.Full
  no_room_cause c k = (
    c.version ∙ s.continues.version,
    room_ran_out history old mid new s.continues (c.extends.kept k) (c.full refl).1,
  )

  room_wrote : (c : CommitsTurn history (Err faults.Full) mid new) (k : KeepsWord (disk_history history new))
      → WroteNone whole (world old) (calls connections) s.serves.replies (world mid) (ran (after (Err faults.Full) c) k) → ⊥
  room_wrote c k none = never faults.Full (c.quiet (wrote_none (after (Err faults.Full) c) k none ∙ b.clean)).0

  -- the commit found no room
  pub no_room : (frames : Given) → frames_in frames.items ≡ refused_frames refusals.Full connections → CommitsTurn history (Err faults.Full) mid new
      → RunsMessages history old connections (Some frames) new left
  no_room frames are c = record {
    sound = c.sound;
    settles = record {
      replies = s.serves.replies;
      one_each = s.serves.one_each;
      anyhow = s.serves.anyhow;
      last = world mid;
      runs = ran (after (Err faults.Full) c);
      ends = inr (inr ((are, no_room_cause c), room_wrote c), back_to ((c.full refl).0), c.version ∙ s.continues.version);
    };
    breaks = λ e. absurd cc;
    taken = took;
    idle = c.ended;
    clean = c.clean;
    rested = c.rested;
    extends = goes_on (Err faults.Full) c;
    any_moment = moved_back history old mid new b.sound b.running b.idle s.continues c.extends s.start
        (c.kept (s.continues.running ∙ b.running) (λ e. absurd cc));
    running = c.running (λ e. absurd cc) ∙ s.continues.running;
    stops = λ e. absurd cc;
    device = λ e. absurd cc;
    moment = moment_so (Err faults.Full) c;
    commits = inl (same_again ((c.full refl).0));
    listed = λ more. absurd (omega (arith, more, c.version, s.continues.version));
    cut = λ e. absurd cc;
    quiet = quiet_so (Err faults.Full) c;
    reads = λ only. unchanged (Err faults.Full) c (s.reads only);
    void = void_so (Err faults.Full) c;
  }

  -- the device failed in it
  pub broken : CommitsTurn history (Err faults.Device) mid new → RunsMessages history old connections None new left
  broken c = record {
    sound = c.sound;
    settles = tt;
    breaks = λ _ k. record { replies = s.serves.replies; last = world mid; runs = ran (after (Err faults.Device) c) k; ends = (c.stops refl).0 };
    taken = took;
    idle = c.ended;
    clean = c.clean;
    rested = c.rested;
    extends = goes_on (Err faults.Device) c;
    any_moment = moved history old mid new b.sound b.running b.idle s.continues c.extends s.start (c.stops refl).0
        (c.any_moment (s.continues.running ∙ b.running));
    running = tt;
    stops = λ _. (c.stops refl).1;
    device = λ _ k. failed_further history old mid new b.sound b.running b.idle s.continues c.extends k s.continues.running (c.device refl k);
    moment = moment_so (Err faults.Device) c;
    commits = tt;
    listed = tt;
    cut = λ _. c.version ∙ s.continues.version;
    quiet = quiet_so (Err faults.Device) c;
    reads = λ only. unchanged (Err faults.Device) c (s.reads only);
    void = void_so (Err faults.Device) c;
  }
