-- How moments follow each other, and causes of refusals grow with them.
use Rattle.std.proofs.Common.{◌≡◌, inl, inr, ℕ, ◌+◌, ◌-◌, ◌^◌, ◌≤◌, ◌<◌, List, [], ◌∷◌, ◌++◌, true, false, refl, sym, ap, ◌∙◌, subst, arith}
use Rattle.std.proofs.lemmas.Bool.{cases_lt}
use Rattle.std.specs.Prelude.{◌⊎◌, Bool, IsTrue, Result, if◌then◌else◌}
use Rattle.bson.specs.Tree.{Pairs}
use Rattle.bson_bytes.specs.declared.fault.BsonFault.{BsonFault}
use Rattle.path.specs.declared.refusal.Refusal.{Refusal}
use Rattle.path.specs.declared.refusal.Refusal.TheVariants as refusals
use Rattle.page.specs.History.{History, KeepsWord}
use Rattle.page.specs.Crash.{ExtendsHistory}
use Rattle.roots.specs.declared.store.CommitFault.{CommitFault}
use Rattle.collections.specs.Calls.{HasWriteCause, IsTooLarge}
use Rattle.collections.specs.State.{State}
use Rattle.collections.specs.View as views
use Rattle.database_model.specs.World.{World}
use Rattle.database_model.specs.Step.{step, Answers}
use Rattle.engine.specs.Committing as engines
use Rattle.engine.specs.Committing.{CommitsTurn}
use Rattle.engine.specs.Continuing.{Continues}
use Rattle.engine.specs.Writing.{FileCause}
use Rattle.engine.specs.Durable.{disk_history, file_of, failed_allocations_of, generation, has_changes, IsRunning, IsSound, KeepsChanges}
use Rattle.engine.specs.declared.engine.Engine.{Engine}
use Rattle.engine.specs.View.{world, turn_start}
use Rattle.engine.proofs.Continuing.{continues_still}
use Rattle.server.specs.Turn.{Call, Runs, WroteNone, ChangeNothing, LeftAll}
use Rattle.server.specs.Taking.{Serves}
use Rattle.server.specs.Moment.{Moment, TurnEnd, Follows, FollowsInTurn, FollowInOrder, last_moment}
use Rattle.server.specs.Causes.{FoundNoPage, IsCaused, OfAnyCause}
use Rattle.server.specs.Durable.{engine_moment}

pub follows_itself : (m : Moment) → Follows m m
follows_itself m = record {
  word = λ k. k;
  clock = omega arith;
  failures = λ k. omega arith;
  takes = λ k. omega arith;
  generation = omega arith;
}

pub follows_further : (a b c : Moment) → Follows a b → Follows b c → Follows a c
follows_further a b c first second = record {
  word = λ k. first.word (second.word k);
  clock = omega (arith, first.clock, second.clock);
  failures = λ k. omega (arith, first.failures (second.word k), second.failures k);
  takes = λ k. omega (arith, first.takes (second.word k), second.takes k);
  generation = omega (arith, first.generation, second.generation);
}

-- ---- moments of turns' ends, in order

pub in_turn_itself : (m : Moment) → FollowsInTurn m m
in_turn_itself m = (follows_itself m, omega arith)

-- a further turn's end
pub follow_end : (first : Moment) (ends : List TurnEnd) (now : Moment) → now ≡ last_moment first ends → FollowInOrder first ends now
    → (end : TurnEnd) → FollowsInTurn now end.at → FollowInOrder first (ends ++ end ∷ []) end.at
follow_end first [] now is order end turn = (subst (λ (m : Moment). FollowsInTurn m end.at) is turn, in_turn_itself end.at)
follow_end first (e ∷ later) now is order end turn = (order.0, follow_end e.at later now is order.1 end turn)

-- a further moment
pub follow_on : (first : Moment) (ends : List TurnEnd) (now last : Moment) → now ≡ last_moment first ends → FollowInOrder first ends now
    → FollowsInTurn now last → FollowInOrder first ends last
follow_on first [] now last is order turn = subst (λ (m : Moment). FollowsInTurn m last) is turn
follow_on first (e ∷ later) now last is order turn = (order.0, follow_on e.at later now last is order.1 turn)

-- ---- a cause between two moments is one between moments around them

module _ (a b c d : Moment) (early : Follows a b) (within : Follows b c) (late : Follows c d) where
  no_page_wider : (k : IsTrue d.keeps_word) → FoundNoPage b c → FoundNoPage a d
  no_page_wider k found =
      let first = early.takes (within.word (late.word k)) in
      let last = late.takes k in
      elim found [
        | inl more ↦ inl (omega (arith, first, more, last))
        | inr most ↦ elim (cases_lt c.failed_allocations d.failed_allocations) [
          | inl more ↦ inl (omega (arith, first, within.takes (late.word k), more))
          | inr same ↦ inr (omega (arith, most, last, same))
        ]
      ]

  pub caused_wider : (planned : World) (r : Refusal) → IsCaused b c planned r → IsCaused a d planned r
  caused_wider planned r (inl is) = inl is
  caused_wider planned r (inr (inl failed)) =
      inr (inl (failed.0, λ k. omega (arith, early.failures (within.word (late.word k)), failed.1 (late.word k), late.failures k)))
  caused_wider planned r (inr (inr full)) = inr (inr (
    full.0,
    λ k. elim (full.1 (late.word k)) [
      | inl found ↦ inl (no_page_wider k found)
      | inr large ↦ inr large
    ],
  ))

-- the refusal, whatever its cause
pub any_cause : (a b : Moment) (planned : World) (r : Refusal) → IsCaused a b planned r → OfAnyCause planned r
any_cause a b planned r (inl is) = inl is
any_cause a b planned r (inr (inl failed)) = inr (inl failed.0)
any_cause a b planned r (inr (inr full)) = inr (inr full.0)

-- ---- weaker causes

module _ (beside other : World → Refusal → Type 0) (weaker : (planned : World) (r : Refusal) → beside planned r → other planned r) where
  pub answers_weaker : (w : World) (id : ℕ) (body : Result Pairs BsonFault) (new : World) (reply : Pairs) → Answers beside w id body new reply
      → Answers other w id body new reply
  answers_weaker w id body new reply (inl is) = inl is
  answers_weaker w id body new reply (inr r) = inr (record {
    refusal = r.refusal;
    cause = weaker (step w id body).0 r.refusal r.cause;
    same = r.same;
    says = r.says;
  })

  pub runs_weaker : (cs : List Call) (w : World) (rs : List Pairs) (new : World) → Runs beside w cs rs new → Runs other w cs rs new
  runs_weaker [] w [] new h = h
  runs_weaker [] w (r ∷ rs) new h = absurd h
  runs_weaker (c ∷ cs) w [] new h = absurd h
  runs_weaker (c ∷ cs) w (r ∷ rs) new h = (h.0, answers_weaker w _ _ h.0 r h.1, runs_weaker cs h.0 rs new h.2)

  -- none of them wrote anything
  pub wrote_weaker : (cs : List Call) (w : World) (rs : List Pairs) (new : World) (h : Runs beside w cs rs new)
      → WroteNone other w cs rs new (runs_weaker cs w rs new h) → WroteNone beside w cs rs new h
  unfolding runs_weaker
  wrote_weaker [] w rs new h none = tt
  wrote_weaker (c ∷ cs) w [] new h none = tt
  wrote_weaker (c ∷ cs) w (r ∷ rs) new h none = (none.0, wrote_weaker cs h.0 rs new h.2 none.1)

  -- all of them left the collections as they were
  pub left_weaker : (cs : List Call) (w : World) (rs : List Pairs) (new : World) (h : Runs beside w cs rs new)
      → LeftAll beside w cs rs new h → LeftAll other w cs rs new (runs_weaker cs w rs new h)
  unfolding runs_weaker
  left_weaker [] w rs new h left = tt
  left_weaker (c ∷ cs) w [] new h left = tt
  left_weaker (c ∷ cs) w (r ∷ rs) new h left = (left.0, left_weaker cs h.0 rs new h.2 left.1)

  -- nor did those that change nothing however they are answered
  pub changed_none : (cs : List Call) (w : World) (rs : List Pairs) (new : World) (h : Runs beside w cs rs new) → ChangeNothing other w cs
      → WroteNone beside w cs rs new h
  changed_none [] w rs new h nothing = tt
  changed_none (c ∷ cs) w [] new h nothing = tt
  changed_none (c ∷ cs) w (r ∷ rs) new h nothing =
      let one = nothing h.0 r (answers_weaker w _ _ h.0 r h.1) in
      (one.0, changed_none cs h.0 rs new h.2 one.1)

  pub serves_weaker : (word before : Type 0) → (word → before) → (same clean : Type 0) (cs : List Call) (old new : World) (ok : Bool)
      (given now : List (ℕ × List ℕ)) → Serves before beside same clean cs old new ok given now → Serves word other same clean cs old new ok given now
  serves_weaker word before kept same clean cs old new ok given now s = record {
    replies = s.replies;
    one_each = s.one_each;
    runs = λ k. runs_weaker cs old s.replies new (s.runs (kept k));
    wrote = λ k none. s.wrote (kept k) (wrote_weaker cs old s.replies new (s.runs (kept k)) none);
    frames = s.frames;
    anyhow = s.anyhow;
    wrote_none = λ k. s.wrote_none (kept k);
    left = s.left;
    left_all = λ k r. left_weaker cs old s.replies new (s.runs (kept k)) (s.left_all (kept k) r);
  }

-- ---- what the engine's calls do to the moment

one_more : (committed : Bool) (old new : ℕ) → new ≡ (if committed then old + 1 else old) → (old ≤ new) × (new ≤ old + 1)
one_more true old new is = (omega (arith, is), omega (arith, is))
one_more false old new is = (omega (arith, is), omega (arith, is))

module _ {D : Type 0} (history : D → History) (old new : Engine D) where
  -- a command, which commits nothing
  pub goes_follows : Continues history old new → Follows (engine_moment history old) (engine_moment history new)
  goes_follows continues = record {
    word = continues.reads.extends.kept;
    clock = continues.reads.extends.clock;
    failures = continues.reads.extends.failures;
    takes = continues.takes;
    generation = omega (arith, continues.version);
  }

  -- the end of a turn, which may find no page
  pub commit_follows : (result : Result (Unit {0}) CommitFault) → CommitsTurn history result old new
      → FollowsInTurn (engine_moment history old) (engine_moment history new)
  commit_follows result commits =
      let once = one_more _ (generation old) (generation new) commits.version in (
        record {
          word = commits.extends.kept;
          clock = commits.extends.clock;
          failures = commits.extends.failures;
          takes = λ k. commits.takes;
          generation = once.0;
        },
        once.1,
      )

  pub undo_follows : ExtendsHistory (disk_history history old) (disk_history history new) → failed_allocations_of history new ≡ failed_allocations_of history
      old
      → generation new ≡ generation old
      → Follows (engine_moment history old) (engine_moment history new)
  undo_follows extends takes same = record {
    word = extends.kept;
    clock = extends.clock;
    failures = extends.failures;
    takes = λ k. omega (arith, takes);
    generation = omega (arith, same);
  }

  -- a refusal of a command of an engine that runs
  module _ (running : IsRunning old) (planned : World) where
    failed_so : HasWriteCause history planned.collections (file_of old) (file_of new) refusals.StorageFailed
        → (disk_history history old).failures < (disk_history history new).failures
    failed_so (inl (inl e)) = absurd cc
    failed_so (inl (inr (inl (e, inl stopped)))) = absurd cc
    failed_so (inl (inr (inl (e, inr failed)))) = failed
    failed_so (inl (inr (inr (e, x)))) = absurd cc
    failed_so (inr (e, x)) = absurd cc

    full_so : HasWriteCause history planned.collections (file_of old) (file_of new) refusals.Full
        → FoundNoPage (engine_moment history old) (engine_moment history new) ⊎ IsTooLarge planned.collections
    full_so (inl (inl e)) = absurd cc
    full_so (inl (inr (inl (e, x)))) = absurd cc
    full_so (inl (inr (inr (e, inl more)))) = inl (inl more)
    full_so (inl (inr (inr (e, inr most)))) = inl (inr (omega (arith, most)))
    full_so (inr (e, large)) = inr large

    pub file_caused : (r : Refusal) → FileCause history (file_of old) (file_of new) planned r
        → IsCaused (engine_moment history old) (engine_moment history new) planned r
    file_caused r (inl is, why) = inl is
    file_caused r (inr (inl is), why) =
        inr (inl (is, λ k. failed_so (subst (λ (e : Refusal). HasWriteCause history planned.collections (file_of old) (file_of new) e) is (why k))))
    file_caused r (inr (inr is), why) =
        inr (inr (is, λ k. full_so (subst (λ (e : Refusal). HasWriteCause history planned.collections (file_of old) (file_of new) e) is (why k))))

-- the commands of a turn, and its end
pub turn_follows : {D : Type 0} (history : D → History) (old mid new : Engine D) → Continues history old mid
    → FollowsInTurn (engine_moment history mid) (engine_moment history new)
    → FollowsInTurn (engine_moment history old) (engine_moment history new)
turn_follows history old mid new continues end = (
  follows_further (engine_moment history old) (engine_moment history mid) (engine_moment history new) (goes_follows history old mid continues) end.0,
  omega (arith, continues.version, end.1),
)

-- Why a turn's commit finds no room, by the whole turn.
pub room_ran_out : {D : Type 0} (history : D → History) (old mid new : Engine D) → Continues history old mid
    → KeepsWord (disk_history history mid)
    → (generation mid ≡ 2 ^ 64 - 1) ⊎ engines.FoundNoPage history mid new
    → ((engine_moment history old).generation ≡ 2 ^ 64 - 1) ⊎ FoundNoPage (engine_moment history old) (engine_moment history new)
room_ran_out history old mid new continues k (inl most) = inl (sym continues.version ∙ most)
room_ran_out history old mid new continues k (inr (inl more)) = inr (inl (omega (arith, more, continues.takes k)))
room_ran_out history old mid new continues k (inr (inr most)) = inr (inr (omega (arith, most)))

-- what the commands of a turn changed is committed: P is what holds where they changed nothing
pub commits_once : {D : Type 0} (history : D → History) (old mid new : Engine D) (P : Type 0) (changed : Bool) → has_changes mid ≡ changed
    → (has_changes mid ≡ false → P) → Continues history old mid → generation new ≡ (if has_changes mid then generation mid + 1 else generation mid)
    → P ⊎ (generation new ≡ generation old + 1)
commits_once history old mid new P true moved quiet continues version =
    inr (version ∙ ap (λ (b : Bool). if b then generation mid + 1 else generation mid) moved ∙ ap (λ (n : ℕ). n + 1) continues.version)
commits_once history old mid new P false clean quiet continues version = inl (quiet clean)

-- and one that committed had changed something
pub had_changes : {D : Type 0} (history : D → History) (old mid new : Engine D) (changed : Bool) → has_changes mid ≡ changed
    → Continues history old mid → generation new ≡ (if has_changes mid then generation mid + 1 else generation mid)
    → generation new ≡ generation old + 1 → has_changes mid ≡ true
had_changes history old mid new true moved continues version more = moved
had_changes history old mid new false clean continues version more =
    let same = version ∙ ap (λ (b : Bool). if b then generation mid + 1 else generation mid) clean ∙ continues.version in
    absurd (omega (arith, same, more))

-- what has no changes had none before
pub rested_before : (old new : Bool) → (old ≡ true → new ≡ true) → new ≡ false → old ≡ false
rested_before true new keeps clean = absurd (let is = keeps refl in cc)
rested_before false new keeps clean = refl

-- so a command that leaves none left the collections as they were
pub rested_still : {D : Type 0} (history : D → History) (old new : Engine D) → IsSound history old → IsSound history new → turn_start new ≡ turn_start old
    → KeepsChanges old new → has_changes new ≡ false → (world new).collections ≡ (world old).collections
rested_still history old new before after start keeps clean =
    sym (after.quiet clean) ∙ start ∙ before.quiet (rested_before (has_changes old) (has_changes new) keeps clean)

-- the same file is on the same disk
disk_same : {D : Type 0} (history : D → History) (mid new : Engine D) → file_of new ≡ file_of mid → disk_history history new ≡ disk_history history mid
disk_same {D} history mid new = ap (λ (file : State D). views.disk_history history file)

-- a turn that changed nothing ends without a commit
pub quiet_commit : {D : Type 0} (history : D → History) (mid new : Engine D) (result : Result (Unit {0}) CommitFault) → has_changes mid ≡ false
    → CommitsTurn history result mid new → Continues history mid new
quiet_commit {D = D} history mid new result clean commits =
    let quiet = commits.quiet clean in
    let done = subst (λ (r : Result (Unit {0}) CommitFault). CommitsTurn history r mid new) quiet.0 commits in
    continues_still history mid new (disk_same history mid new quiet.1) (done.running (λ e. absurd cc))
    (done.version ∙ ap (λ (b : Bool). if b then generation mid + 1 else generation mid) clean) (done.found (λ e. absurd cc))
    (ap (λ (file : State D). (views.pages_of history file).failed_reads) quiet.1)

-- a turn that took no message ends without a call of the disk
pub idle_commit : {D : Type 0} (history : D → History) (old mid new : Engine D) (result : Result (Unit {0}) CommitFault) → has_changes old ≡ false → mid ≡ old
    → CommitsTurn history result mid new
    → disk_history history new ≡ disk_history history old
idle_commit history old mid new result clean same commits =
    disk_same history mid new (commits.quiet (ap has_changes same ∙ clean)).1 ∙ ap (disk_history history) same

-- the messages of a turn, by the causes of the whole turn
pub cause_over : {D : Type 0} (history : D → History) (old mid new : Engine D) → Continues history old mid
    → Follows (engine_moment history mid) (engine_moment history new) → (planned : World) (r : Refusal)
    → IsCaused (engine_moment history old) (engine_moment history mid) planned r
    → IsCaused (engine_moment history old) (engine_moment history new) planned r
cause_over history old mid new continues after =
    caused_wider (engine_moment history old) (engine_moment history old) (engine_moment history mid) (engine_moment history new)
    (follows_itself (engine_moment history old)) (goes_follows history old mid continues) after
