-- What giving a first batch of the documents of a list does, and opening a cursor on the others.
use Rattle.std.specs.Prelude.{◌≡◌, ◌⊎◌, ℕ, ◌+◌, ◌<◌, ◌≤◌, Bool, true, false, List, [], ◌∷◌, ◌++◌}
use Rattle.std.specs.Prelude.{Option, Some, None, Result, Ok, Err, IfOk, OnErr, MatchResult, drop}
use Rattle.std.specs.Prelude.{length}
use Rattle.bson.specs.Tree.{Pairs}
use Rattle.page.specs.History.{History, KeepsWord}
use Rattle.path.specs.declared.refusal.Refusal.{Refusal}
use Rattle.entry_model.specs.State.{Collection}
use Rattle.collections.specs.Calls.{ExtendsTurn, HasReadCause, IsUnchanged}
use Rattle.collections.specs.Standing.{HasState}
use Rattle.collections.specs.State.{State}
use Rattle.collections.specs.View.{disk_history, is_stopped}
use Rattle.pager.specs.declared.version.Version.{Version}
use Rattle.database_model.specs.Cursors.{new_cursor}
use Rattle.projection.specs.Projection.{Projection}
use Rattle.replies.specs.FirstBatch.{IsFirstBatch, IsNoBatch}
use Rattle.cursors.specs.Held.{Held, HeldWalk, Way, cursors_of, table_of}
use Rattle.pinned_cursors.specs.Batches.{ReadsThenPins}
use Rattle.pinned_cursors.specs.Opening.{IsLeftOf, Tells, that_keep}
use Rattle.pinned_cursors.specs.Tied.{AreTied, ReadsRest, TiedBeside}
use Rattle.pinned_cursors.specs.declared.first.FirstGiven.{FirstGiven}
use Rattle.pinned_cursors.specs.Turns.{OnlyPins}

-- The reply has as many of the documents as go into a first batch. Where others are left, a cursor
-- was opened on them.
pub record IsFirstGiven (connection : ℕ) (namespace : List ℕ) (documents : List Pairs) (most : ℕ)
    (before after : Held) (reply : Pairs) : Type 0 where
  pub n : ℕ
  pub batch : IsFirstBatch (table_of before) connection namespace documents most n reply
  pub whole : length documents ≤ n → table_of after ≡ table_of before
  pub opened : n < length documents → table_of after ≡ record {
    list = cursors_of before
        ++ new_cursor before.next connection namespace (drop n documents) ∷ [];
    next = before.next + 1;
  }

-- A first batch of the documents was given, or a refusal left the cursors as they were. Between
-- pins that came and went at most, the file was read.
pub record GivesFirst {D : Type 0} (history : D → History) (connection : ℕ)
    (namespace : List ℕ) (number : ℕ) (p : Projection) (way : Way) (documents : List Pairs)
    (most : ℕ) (result : Result Pairs Refusal) (old new : State D)
    (before after : Held) : Type 0 where
  pub pinned : State D
  pub first : OnlyPins history old pinned
  pub continues : ReadsThenPins history pinned new
  pub err : OnErr result (after ≡ before)
  -- a new one keeps no documents
  pub keep : that_keep after ≡ that_keep before
  pub answers : KeepsWord (disk_history history new)
      → IsLeftOf history old number p way documents
      → MatchResult result (IsFirstGiven connection namespace documents most before after)
      (λ e. HasReadCause history old new e
      ⊎ IsNoBatch (table_of before) connection documents most e)
  pub tied : (KeepsWord (disk_history history old)
      → IsLeftOf history old number p way documents)
      → (changed : Bool) → Tells changed old → AreTied changed history old before.list
      → AreTied changed history new after.list

-- Nothing was given, and the cursors are as they were. Between pins that came and went, the file
-- was read.
pub record GivesNone {D : Type 0} (history : D → History) (old new : State D)
    (before after : Held) : Type 0 where
  pub pinned : State D
  pub first : OnlyPins history old pinned
  pub continues : ReadsThenPins history pinned new
  pub same : after ≡ before
  pub tied : (changed : Bool) → AreTied changed history old before.list
      → AreTied changed history new after.list

-- what is so of a result that may be none
abbrev pub OrNone : {X E : Type 0} → (Result X E → Type 0) → Type 0 → Result (Option X) E → Type 0
OrNone Is OfNone (Ok None) = OfNone
OrNone Is OfNone (Ok (Some x)) = Is (Ok x)
OrNone Is OfNone (Err e) = Is (Err e)

-- ---- in the version that is pinned for it

-- The cursors are as they were, or the pin is that of the new one.
abbrev pub KeepsPin : {D : Type 0} → Bool → (D → History) → Version → Held → Held → Bool
    → State D → Type 0
KeepsPin changed history version before after true new =
    TiedBeside changed history new version before.list → AreTied changed history new after.list
KeepsPin changed history version before after false new = after ≡ before

-- A first batch of what a walk is to give was given: nothing of the turn changes, and the cursors
-- are as they were, or one was opened that has the pin.
pub record GivesPinned {D : Type 0} (history : D → History) (connection : ℕ)
    (namespace : List ℕ) (w : HeldWalk) (documents : List Pairs) (most : ℕ)
    (result : Result FirstGiven Refusal) (old new : State D) (before after : Held) : Type 0 where
  pub extends : ExtendsTurn history old new
  pub unchanged : IsUnchanged history old new
  pub same : (start now : List Collection) → HasState history old start now
      → HasState history new start now
  pub err : OnErr result (after ≡ before)
  pub keep : that_keep after ≡ that_keep before
  pub answers : KeepsWord (disk_history history new) → ReadsRest true history old w documents
      → MatchResult result
      (λ g. IsFirstGiven connection namespace documents most before after g.reply)
      (λ e. HasReadCause history old new e
      ⊎ IsNoBatch (table_of before) connection documents most e)
  pub pin : IfOk result (λ g. (changed : Bool) → (is_stopped new ≡ false
      → KeepsWord (disk_history history new) → ReadsRest changed history old w documents)
      → KeepsPin changed history w.version before after g.is_open new)

-- Nothing was given, and nothing changes.
pub record PinnedNone {D : Type 0} (history : D → History) (old new : State D)
    (before after : Held) : Type 0 where
  pub extends : ExtendsTurn history old new
  pub unchanged : IsUnchanged history old new
  pub state : (start now : List Collection) → HasState history old start now
      → HasState history new start now
  pub same : after ≡ before
