-- What a call that pins, or ends pins, leaves of the turn.
use Rattle.std.specs.Prelude.{◌≡◌, Bool, List, Option, MatchOption}
use Rattle.page.specs.History.{History}
use Rattle.entry_model.specs.State.{Collection}
use Rattle.collections.specs.Marks.{IsUntouched}
use Rattle.collections.specs.Standing.{HasState}
use Rattle.collections.specs.State.{State}
use Rattle.collections.specs.Versions.{UnpinsVersion}
use Rattle.collections.specs.View.{is_changed, pages_of}
use Rattle.pager.specs.declared.version.Version.{Version}
use Rattle.cursors.specs.Held.{Held}
use Rattle.pinned_cursors.specs.Tied.{AreTied}

-- Only pins came or went: the disk is as it was, no page was asked for, and the turn goes on with
-- the same collections.
pub record OnlyPins {D : Type 0} (history : D → History) (old new : State D) : Type 0 where
  pub untouched : IsUntouched history old new
  pub takes : (pages_of history new).failed_allocations ≡ (pages_of history old).failed_allocations
  pub unchanged : is_changed new ≡ is_changed old
  pub state : (start now : List Collection) → HasState history old start now
      → HasState history new start now

-- The pin of a version ended, where there is one.
abbrev pub EndsPin : {D : Type 0} → (D → History) → Option Version → State D → State D → Type 0
EndsPin history pinned old new =
    MatchOption pinned (new ≡ old) (λ version. UnpinsVersion history version old new)

-- Cursors came to others, and their pins with them. Whether the turn has changed something is said
-- first.
pub record Releases {D : Type 0} (changed : Bool) (history : D → History) (old new : State D)
    (before after : Held) : Type 0 where
  pub pins : OnlyPins history old new
  pub tied : AreTied changed history old before.list → AreTied changed history new after.list
