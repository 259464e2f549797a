-- What reading the next batch of a cursor does that holds no documents.
use Rattle.std.specs.Prelude.{◌≡◌, ℕ, ◌<◌, ◌≤◌, ◌^◌, Bool, List, Option, Some, Result, length}
use Rattle.std.specs.Prelude.{codes, drop, MatchOption, MatchResult, OnErr}
use Rattle.bson.specs.Tree.{Pairs}
use Rattle.page.specs.History.{History, KeepsWord}
use Rattle.path.specs.declared.refusal.Refusal.{Refusal}
use Rattle.entry_model.specs.State.{Collection}
use Rattle.collections.specs.Calls.{ExtendsTurn, HasReadCause, IsUnchanged}
use Rattle.collections.specs.Standing.{HasState}
use Rattle.collections.specs.State.{State}
use Rattle.collections.specs.View.{disk_history}
use Rattle.database_model.specs.Cursors.{advanced, batch_of, batch_reply}
use Rattle.database_model.specs.GetMore.{batch_len_of}
use Rattle.database_model.specs.Refusals.{ok_reply}
use Rattle.cursors.specs.Changes.{onwards}
use Rattle.cursors.specs.Held.{Held, HeldCursor, HeldWalk, cursors_of, held_at, table_of}
use Rattle.walks.specs.declared.batches.GivenBatch.{GivenBatch}
use Rattle.pinned_cursors.specs.Tied.{AreTied, ReadsRest}
use Rattle.pinned_cursors.specs.Turns.{OnlyPins}

-- The batch has what goes into it of what is left of the cursor, its reply says so, and it says
-- whether others are left, and from where the walk goes on to them.
pub record IsNextBatch {D : Type 0} (passing : Bool) (history : D → History) (file : State D)
    (h : HeldCursor) (w : HeldWalk) (namespace : List ℕ) (most : ℕ) (b : GivenBatch)
    : Type 0 where
  pub counted : b.count ≡ batch_of most h.cursor.rest
  pub says : b.reply ≡ ok_reply (batch_reply (codes "nextBatch") b.count h.cursor.rest
      h.cursor.number namespace)
  pub few : length h.cursor.rest < 2 ^ 64
  pub next : MatchOption b.next (length h.cursor.rest ≤ b.count)
      (λ text. (b.count < length h.cursor.rest)
      × ReadsRest passing history file (onwards b.count text.items w)
      (drop b.count h.cursor.rest))

-- The next batch was read: nothing of the turn changes, and while the disk keeps its word, it is
-- that of what is left, or the refusal has its cause.
pub record ReadsAt {D : Type 0} (history : D → History) (h : HeldCursor) (namespace : List ℕ)
    (most : ℕ) (result : Result GivenBatch Refusal) (old new : State D) : Type 0 where
  pub extends : ExtendsTurn history old new
  pub unchanged : IsUnchanged history old new
  pub same : (start now : List Collection) → HasState history old start now
      → HasState history new start now
  pub answers : KeepsWord (disk_history history new) → (w : HeldWalk) → h.walk ≡ Some w
      → (passing : Bool) → ReadsRest passing history old w h.cursor.rest
      → MatchResult result (IsNextBatch passing history new h w namespace most)
      (HasReadCause history old new)

-- ---- and the cursor goes on, or ends

-- The file was read, and then pins went at most.
pub record ReadsThenPins {D : Type 0} (history : D → History) (old new : State D) : Type 0 where
  pub read : State D
  pub extends : ExtendsTurn history old read
  pub unchanged : IsUnchanged history old read
  pub same : (start now : List Collection) → HasState history old start now
      → HasState history read start now
  pub pins : OnlyPins history read new

-- the cursor at a place gave its next documents, by this reply
pub record IsGivenNext (at : ℕ) (namespace : List ℕ) (most : Option ℕ) (before after : Held)
    (reply : Pairs) : Type 0 where
  pub says : let h = held_at before at in reply ≡ ok_reply (batch_reply (codes "nextBatch")
      (batch_len_of h.cursor most) h.cursor.rest h.cursor.number namespace)
  pub left : table_of after ≡ record {
    list = advanced (cursors_of before) at (batch_len_of (held_at before at).cursor most);
    next = before.next;
  }

-- The next batch was given, or a refusal left the cursors as they were.
pub record GivesNext {D : Type 0} (history : D → History) (at : ℕ) (namespace : List ℕ)
    (most : Option ℕ) (result : Result Pairs Refusal) (old new : State D)
    (before after : Held) : Type 0 where
  pub continues : ReadsThenPins history old new
  pub err : OnErr result (after ≡ before)
  pub answers : KeepsWord (disk_history history new)
      → (changed : Bool) → AreTied changed history old before.list
      → MatchResult result (IsGivenNext at namespace most before after)
      (HasReadCause history old new)
  pub tied : (changed : Bool) → AreTied changed history old before.list
      → AreTied changed history new after.list
