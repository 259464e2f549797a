-- What opening a cursor does that holds no documents.
use Rattle.std.specs.Prelude.{◌≡◌, ℕ, ◌+◌, ◌-◌, Bool, false, All, List, [], ◌∷◌, ◌++◌, Result}
use Rattle.std.specs.Prelude.{OnErr, OnOk, is_some, not}
use Rattle.std.specs.List.{filter}
use Rattle.bson.specs.Tree.{Pairs}
use Rattle.page.specs.History.{History, KeepsWord}
use Rattle.entry_model.specs.State.{Collection}
use Rattle.collections.specs.Lookups.{IsNumbered}
use Rattle.collections.specs.Standing.{HasState}
use Rattle.collections.specs.State.{State}
use Rattle.collections.specs.View.{disk_history, is_changed, is_stopped}
use Rattle.database_model.specs.Cursors.{new_cursor}
use Rattle.database_model.specs.Lawful.{IsStored}
use Rattle.pager.specs.declared.version.Version.{Version}
use Rattle.index.specs.View.{texts_of}
use Rattle.projection.specs.Projection.{Projection}
use Rattle.cursors.specs.Changes.{further}
use Rattle.cursors.specs.Held.{Held, HeldCursor, HeldWalk, Way, through, listed, ordered}
use Rattle.cursors.specs.Held.{cursors_of, table_of}
use Rattle.pinned_cursors.specs.Tied.{AreTied, IsLeftBy}
use Rattle.pinned_cursors.specs.Turns.{OnlyPins}
use Rattle.walks.specs.declared.in_order.OrderedWalk.{OrderedWalk}
use Rattle.pinned_cursors.specs.declared.opening.ListLeft.{ListLeft}
use Rattle.pinned_cursors.specs.declared.opening.OrderSoFar.{OrderSoFar}
use Rattle.pinned_cursors.specs.declared.opening.WalkSoFar.{WalkSoFar}

-- how a cursor goes on behind a batch of a walk
abbrev pub way_behind : WalkSoFar → Way
way_behind left =
    through left.walk.now.filter.now (left.walk.now.limit - left.count) left.from.items

-- how it goes on by a list
abbrev pub way_by : ListLeft → Way
way_by left = listed (texts_of left.texts.items)

-- what comes in the order of an index, and how a cursor goes on there behind a batch
abbrev pub way_in_order : OrderedWalk → Way
way_in_order w =
    ordered w.filter.now w.index.now w.skip w.limit w.from.now w.last.now

abbrev pub order_behind : OrderSoFar → Way
order_behind left = further left.count left.from.items (way_in_order left.walk)

-- how a cursor goes on in a version
abbrev pub held_walk : Version → ℕ → Projection → Way → HeldWalk
held_walk version number p way =
    record { version = version; number = number; projection = p; way = way }

-- These documents are what is left in this way of a collection of this number, one of those of now.
pub record IsLeftOf {D : Type 0} (history : D → History) (file : State D) (number : ℕ)
    (p : Projection) (way : Way) (rest : List Pairs) : Type 0 where
  pub start : List Collection
  pub now : List Collection
  pub has : HasState history file start now
  pub home : Collection
  pub numbered : IsNumbered now home number
  pub stored : All IsStored home.documents
  pub left : IsLeftBy way p home rest

-- the cursors that keep documents
abbrev pub that_keep : Held → List HeldCursor
that_keep held = filter (λ h. not (is_some h.walk)) held.list

-- Where it is said that the turn has changed nothing, the file's tree is the committed one.
abbrev pub Tells : {D : Type 0} → Bool → State D → Type 0
Tells changed file = is_stopped file ≡ false → changed ≡ false → is_changed file ≡ false

-- A cursor on these documents was opened, or all is as it was but for the pins. Where the documents
-- are what is left in this way, the cursors stay tied to the file.
pub record OpensPinned {D E : Type 0} (history : D → History) (connection : ℕ)
    (namespace : List ℕ) (number : ℕ) (p : Projection) (way : Way) (rest : List Pairs)
    (result : Result (Unit {0}) E) (old new : State D) (before after : Held) : Type 0 where
  pub ok : OnOk result (table_of after ≡ record {
    list = cursors_of before ++ new_cursor before.next connection namespace rest ∷ [];
    next = before.next + 1;
  })
  pub err : OnErr result (after ≡ before)
  -- the new one keeps none
  pub keep : that_keep after ≡ that_keep before
  pub pins : OnlyPins history old new
  pub tied : (KeepsWord (disk_history history old) → IsLeftOf history old number p way rest)
      → (changed : Bool) → Tells changed old → AreTied changed history old before.list
      → AreTied changed history new after.list
