-- What was read of the file was read of the engine, and how calls add up that follow one another.
use Rattle.std.proofs.Common.{◌≡◌, inl, inr, ℕ, List, Option, Some, None, Result, Ok, Err, refl, ap, subst, sym, ◌∙◌, arith}
use Rattle.std.specs.Prelude.{MatchResult, OnErr}
use Rattle.bson.specs.Tree.{Pairs}
use Rattle.page.specs.History.{History, KeepsWord}
use Rattle.path.specs.declared.refusal.Refusal.{Refusal}
use Rattle.path.specs.declared.refusal.Refusal.TheVariants as refusals
use Rattle.entry_model.specs.State.{Collection}
use Rattle.collections.specs.Calls.{ExtendsTurn, HasFailed, HasReadCause, IsUnchanged, Reads}
use Rattle.collections.specs.Lookups.{ReadsOf}
use Rattle.collections.specs.Standing.{HasState}
use Rattle.std.specs.Prelude.{Bool}
use Rattle.collections.specs.View.{disk_history}
use Rattle.collections.proofs.StandingLemmas.{stopped_same}
use Rattle.engine.specs.Durable.{file_of, has_changes, IsSound}
use Rattle.opening.specs.TurnStates.{TurnStates}
use Rattle.database_model.specs.Lawful.{IsLawfulState, AreLawfulCursors}
use Rattle.engine.specs.Looking.{Looks, LooksOf, OnlyReads}
use Rattle.engine.specs.Performing.{DoesReading, MayPerform, RunsReadingCommand, StaysAlike}
use Rattle.replies.specs.View.{with_ok}
use Rattle.engine.specs.View.{world, world_of, turn_start}
use Rattle.database_model.specs.World.{World}
use Rattle.cursors.specs.Held.{Held, cursors_of, table_of}
use Rattle.pinned_cursors.specs.Tied.{AreTied}
use Rattle.pinned_cursors.proofs.TurnTied.{tied_on}
use Rattle.engine.specs.declared.engine.Engine.{Engine}
use Rattle.asked_documents.proofs.ReadingLemmas.{goes_itself, goes_on, widen_before, word_before}
use Rattle.engine.proofs.Continuing.{continues_further, continues_of}
use Rattle.engine.proofs.OnlyReading.{does_any}

-- ---- what was read of the file

module _ {D : Type 0} (history : D → History) (old new : Engine D) (h : IsSound history old) (told : new.told.value ≡ old.told.value)
    (cursors : new.cursors ≡ old.cursors) (changes : has_changes new ≡ has_changes old) where
  pub reads_so : ExtendsTurn history (file_of old) (file_of new) → IsUnchanged history (file_of old) (file_of new)
      → ((start now : List Collection) → HasState history (file_of old) start now → HasState history (file_of new) start now) → OnlyReads history old new
  reads_so continues unchanged same = record {
    sound = record {
      lawful = subst (λ (t : TurnStates). IsLawfulState t.now) (sym told) h.lawful;
      cursors = subst (λ (held : Held). AreLawfulCursors (cursors_of held)) (sym cursors) h.cursors;
      before = subst (λ (t : TurnStates). IsLawfulState t.start) (sym told) h.before;
      quiet = λ clean. ap (λ (t : TurnStates). t.start) told ∙ h.quiet (sym changes ∙ clean) ∙ sym (ap (λ (t : TurnStates). t.now) told);
      file = subst (λ (t : TurnStates). HasState history (file_of new) t.start t.now) (sym told) (same (turn_start old) (world old).collections h.file);
      unchanged = λ running clean. ap (λ (t : Bool × ℕ). t.0) unchanged
          ∙ h.unchanged (sym (stopped_same history (file_of old).pager (file_of new).pager continues.stays) ∙ running) (sym changes ∙ clean);
      tied = subst (λ (b : Bool). AreTied b history (file_of new) new.cursors.list) (sym changes)
          (subst (λ (held : Held). AreTied (has_changes old) history (file_of new) held.list) (sym cursors)
          (tied_on history (file_of old) (file_of new) old.cursors.list (has_changes old) continues h.tied));
    };
    continues = continues;
    told = told;
    cursors = cursors;
    changes = changes;
    takes = ap (λ (t : Bool × ℕ). t.1) unchanged;
  }

  pub looks_so : {X : Type 0} (Q : List Collection → X → Type 0) (r : Result X Refusal) → Reads history Q r (file_of old) (file_of new)
      → Looks history Q r old new
  looks_so Q r reads = record {
    reads = reads_so reads.extends reads.unchanged reads.same;
    answers = λ k. reads.answers k (turn_start old) (world old).collections h.file;
  }

  pub looks_so_of : {A X : Type 0} (Is : List Collection → A → Type 0) (Q : List Collection → A → X → Type 0) (r : Result X Refusal)
      → ReadsOf history Is Q r (file_of old) (file_of new) → LooksOf history Is Q r old new
  looks_so_of Is Q r reads = record {
    reads = reads_so reads.extends reads.unchanged reads.same;
    answers = λ k asked is. reads.answers k (turn_start old) (world old).collections h.file asked is;
  }

-- nothing was done
pub reads_nothing : {D : Type 0} (history : D → History) (old : Engine D) → IsSound history old → OnlyReads history old old
reads_nothing history old h = reads_so history old old h refl refl refl (goes_itself history (file_of old)) refl (λ start now has. has)

-- ---- one after the other

module _ {D : Type 0} (history : D → History) (a b : Engine D) (reads : OnlyReads history a b) where
  pub collections_same : (world b).collections ≡ (world a).collections
  collections_same = ap (λ (t : TurnStates). t.now) reads.told

  pub world_same : world b ≡ world a
  world_same = λ i. world_of (reads.told i) (table_of (reads.cursors i))

  pub start_same : turn_start b ≡ turn_start a
  start_same = ap (λ (t : TurnStates). t.start) reads.told

pub reads_trans : {D : Type 0} (history : D → History) (a b c : Engine D) → OnlyReads history a b → OnlyReads history b c → OnlyReads history a c
reads_trans history a b c first second = record {
  sound = second.sound;
  continues = goes_on history (file_of a) (file_of b) (file_of c) first.continues second.continues;
  told = second.told ∙ first.told;
  cursors = second.cursors ∙ first.cursors;
  changes = second.changes ∙ first.changes;
  takes = second.takes ∙ first.takes;
}

module _ {D X : Type 0} (history : D → History) (P : List Collection → X → Type 0) (old new : Engine D) where
  -- a refusal is one whatever was looked for
  pub looks_refused : {Y : Type 0} (Q : List Collection → Y → Type 0) (e : Refusal) → Looks history P (Err e) old new → Looks history Q (Err e) old new
  looks_refused Q e looks = record { reads = looks.reads; answers = looks.answers }

  -- what is made of an answer, unless memory runs out
  pub looks_made : {Y : Type 0} (Q : List Collection → Y → Type 0) (x : X) (y : Y) → Looks history P (Ok x) old new
      → (P (world old).collections x → Q (world old).collections y) → Looks history Q (Ok y) old new
  looks_made Q x y looks extends = record { reads = looks.reads; answers = λ k. extends (looks.answers k) }

  pub looks_memory : (e : Refusal) → e ≡ refusals.OutOfMemory → OnlyReads history old new → Looks history P (Err e) old new
  looks_memory e is reads = record { reads = reads; answers = λ k. inl is }

-- A look behind another: what the first one gave tells what is asked for next.
module _ {D X A Y : Type 0} (history : D → History) (P : List Collection → X → Type 0) (Is : List Collection → A → Type 0) (Q : List Collection → A → Y
    → Type 0) (R : List Collection → Y → Type 0) (a b c : Engine D) (x : X) where
  pub record IsAsked (now : List Collection) : Type 0 where
    pub asked : A
    pub is : Is now asked
    pub right : (y : Y) → Q now asked y → R now y

  pub looks_behind : (r : Result Y Refusal) → Looks history P (Ok x) a b → LooksOf history Is Q r b c
      → (P (world a).collections x → IsAsked (world a).collections) → Looks history R r a c
  looks_behind r first second ask = record {
    reads = reads_trans history a b c first.reads second.reads;
    answers = λ k.
        let then = ask (first.answers (word_before history (file_of b) (file_of c) second.reads.continues k)) in
        let there = subst (λ (now : List Collection). (asked : A) → Is now asked → MatchResult r (Q now asked) (HasReadCause history (file_of b) (file_of c)))
        (collections_same history a b first.reads) (second.answers k) in
        either k r then (there then.asked then.is);
  }
    where
      either : KeepsWord (disk_history history (file_of c)) → (r : Result Y Refusal) (then : IsAsked (world a).collections)
          → MatchResult r (Q (world a).collections then.asked) (HasReadCause history (file_of b) (file_of c))
          → MatchResult r (R (world a).collections) (HasReadCause history (file_of a) (file_of c))
      either k (Ok y) then right = then.right y right
      either k (Err e) then cause = widen_before history (file_of a) (file_of b) (file_of c) first.reads.continues second.reads.continues k e cause

-- ---- what a command does that reads first

module _ {D : Type 0} (history : D → History) (old new : Engine D) (planned : Result (World × Pairs) Refusal) where
  -- all of it was reading
  pub performs_read : (r : Result Pairs Refusal) → OnlyReads history old new
      → (KeepsWord (disk_history history (file_of new)) → DoesReading history planned r old new) → RunsReadingCommand history planned r old new
  performs_read r reads as_planned = record {
    performs = record {
      sound = reads.sound;
      continues = continues_of history old new reads.continues;
      start = start_same history old new reads;
      as_planned = λ k. does_any history old new planned r (as_planned k);
      left = on_err r (world_same history old new reads);
      refused = on_err r reads.changes;
      keeps = λ t. reads.changes ∙ t;
    };
    changes = reads.changes;
    takes = reads.takes;
    as_planned = as_planned;
  }
    where
      on_err : {P : Type 0} (x : Result Pairs Refusal) → P → OnErr x P
      on_err (Ok reply) it = tt
      on_err (Err e) it = it

  -- it was refused, by a cause of its own
  pub performs_refused : (e : Refusal) → OnlyReads history old new
      → (KeepsWord (disk_history history (file_of new)) → HasReadCause history (file_of old) (file_of new) e)
      → RunsReadingCommand history planned (Err e) old new
  performs_refused e reads cause = performs_read (Err e) reads (λ k. (world_same history old new reads, inr (cause k)))

pub performs_memory : {D : Type 0} (history : D → History) (old new : Engine D) (planned : Result (World × Pairs) Refusal) (e : Refusal)
    → e ≡ refusals.OutOfMemory → OnlyReads history old new → RunsReadingCommand history planned (Err e) old new
performs_memory history old new planned e is reads = performs_refused history old new planned e reads (λ k. inl is)

-- What was done behind what left all alike, where it was planned of the same world.
module _ {D : Type 0} (history : D → History) (old mid new : Engine D) (alike : StaysAlike history old mid)
    (there planned : Result (World × Pairs) Refusal) where
  pub world_alike : world mid ≡ world old
  world_alike = λ i. world_of (alike.told i) (table_of (alike.cursors i))

  pub performs_after : (r : Result Pairs Refusal) → RunsReadingCommand history there r mid new
      → (KeepsWord (disk_history history (file_of new)) → there ≡ planned) → RunsReadingCommand history planned r old new
  performs_after r done same =
      let as_planned : KeepsWord (disk_history history (file_of new)) → DoesReading history planned r old new =
      λ k. either r (same k) (done.performs.continues.reads.extends.kept k) (done.as_planned k) in
      record {
        performs = record {
          sound = done.performs.sound;
          continues = continues_further history old mid new alike.continues done.performs.continues;
          start = done.performs.start ∙ ap (λ (t : TurnStates). t.start) alike.told;
          as_planned = λ k. does_any history old new planned r (as_planned k);
          left = unchanged r done.performs.left;
          refused = kept r done.performs.refused;
          keeps = λ t. done.changes ∙ alike.changes ∙ t;
        };
        changes = done.changes ∙ alike.changes;
        takes = done.takes ∙ alike.takes;
        as_planned = as_planned;
      }
    where
      unchanged : (x : Result Pairs Refusal) → OnErr x (world new ≡ world mid) → OnErr x (world new ≡ world old)
      unchanged (Ok reply) h = tt
      unchanged (Err e) h = h ∙ world_alike

      kept : (x : Result Pairs Refusal) → OnErr x (has_changes new ≡ has_changes mid) → OnErr x (has_changes new ≡ has_changes old)
      kept (Ok reply) h = tt
      kept (Err e) h = h ∙ alike.changes

      failed : KeepsWord (disk_history history (file_of mid)) → HasFailed history (file_of mid) (file_of new) → HasFailed history (file_of old) (file_of new)
      failed k (inl stopped) = inl (sym alike.continues.running ∙ stopped)
      failed k (inr more) = inr (omega (arith, more, alike.continues.reads.extends.failures k))

      cause : KeepsWord (disk_history history (file_of mid)) → (e : Refusal) → HasReadCause history (file_of mid) (file_of new) e
          → HasReadCause history (file_of old) (file_of new) e
      cause k e (inl memory) = inl memory
      cause k e (inr (is, fails)) = inr (is, failed k fails)

      either : (x : Result Pairs Refusal) → there ≡ planned → KeepsWord (disk_history history (file_of mid)) → DoesReading history there x mid new
          → DoesReading history planned x old new
      either (Ok reply) is k as_planned = ap with_ok (sym is) ∙ as_planned
      either (Err e) is k (unchanged, inl refused) = (unchanged ∙ world_alike, inl (sym is ∙ refused))
      either (Err e) is k (unchanged, inr fails) = (unchanged ∙ world_alike, inr (cause k e fails))

-- what was only read left it so
pub alike_read : {D : Type 0} (history : D → History) (old new : Engine D) → OnlyReads history old new → StaysAlike history old new
alike_read history old new reads = record {
  sound = reads.sound;
  continues = continues_of history old new reads.continues;
  told = reads.told;
  cursors = reads.cursors;
  changes = reads.changes;
  takes = reads.takes;
}

-- one behind the other
pub alike_on : {D : Type 0} (history : D → History) (a b c : Engine D) → StaysAlike history a b → StaysAlike history b c → StaysAlike history a c
alike_on history a b c first then = record {
  sound = then.sound;
  continues = continues_further history a b c first.continues then.continues;
  told = then.told ∙ first.told;
  cursors = then.cursors ∙ first.cursors;
  changes = then.changes ∙ first.changes;
  takes = then.takes ∙ first.takes;
}

module _ {D : Type 0} (history : D → History) (old mid new : Engine D) (reads : OnlyReads history old mid)
    (there planned : Result (World × Pairs) Refusal) where
  pub performs_behind : (r : Result Pairs Refusal) → RunsReadingCommand history there r mid new
      → (KeepsWord (disk_history history (file_of new)) → there ≡ planned) → RunsReadingCommand history planned r old new
  performs_behind = performs_after history old mid new (alike_read history old mid reads) there planned

  -- the same of what may be done in one way
  pub may_behind : (r : Result (Option Pairs) Refusal) → MayPerform history there r mid new
      → (KeepsWord (disk_history history (file_of new)) → there ≡ planned) → MayPerform history planned r old new
  may_behind (Ok None) alike same = alike_on history old mid new (alike_read history old mid reads) alike
  may_behind (Ok (Some reply)) done same = performs_behind (Ok reply) done same
  may_behind (Err e) done same = performs_behind (Err e) done same
