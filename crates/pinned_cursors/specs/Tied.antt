-- Cursors that hold no documents, and the file in which the versions that they read are pinned.
use Rattle.std.specs.Prelude.{◌≡◌, ◌&&◌, ⊤, ℕ, Bool, true, false, All, List, [], ◌∷◌, map}
use Rattle.std.specs.Prelude.{Option, Some, None, MatchOption, Contains}
use Rattle.std.specs.List.{AllByRecursion}
use Rattle.bson.specs.Tree.{Pairs}
use Rattle.page.specs.History.{History, KeepsWord}
use Rattle.tree_model.specs.Keys.{times}
use Rattle.entry_model.specs.State.{Collection}
use Rattle.collections.specs.Lookups.{IsNumbered}
use Rattle.pager.specs.declared.version.Version.{Version}
use Rattle.collections.specs.State.{State}
use Rattle.collections.specs.Versions.{HasSinceStart, HasVersion, pins_of}
use Rattle.collections.specs.View.{disk_history, is_stopped}
use Rattle.database_model.specs.Lawful.{IsStored}
use Rattle.filter.specs.Condition.{Conditions}
use Rattle.index.specs.Definition.{Definition}
use Rattle.sort.specs.Sort.{SortField}
use Rattle.projection.specs.Projection.{Projection, project}
use Rattle.walks.specs.Batches.{walk_rest}
use Rattle.walks.specs.InOrder.{IsInOrder, ordered_rest}
use Rattle.walks.specs.Listed.{HasListed}
use Rattle.cursors.specs.Held.{HeldCursor, HeldWalk, Way, through, listed, ordered}

-- The texts are those of some of the documents, and this is what a projection leaves of them.
pub record ListsRest (texts : List (List ℕ)) (p : Projection) (ds rest : List Pairs) : Type 0 where
  pub some : List Pairs
  pub there : HasListed ds texts some
  pub same : rest ≡ map (project p) some

-- The collection has the index, which is in the order of a sort, and this is what comes in that
-- order from an entry on.
pub record OrdersRest (rules : Conditions) (i : Definition) (skip limit : ℕ) (from last : List ℕ)
    (p : Projection) (c : Collection) (rest : List Pairs) : Type 0 where
  pub there : Contains c.indexes i
  pub sort : List SortField
  pub in_order : IsInOrder rules sort i last
  pub same : rest ≡ ordered_rest rules sort p skip limit i from c.documents

-- what is still to be given in this way of a collection
abbrev pub IsLeftBy : Way → Projection → Collection → List Pairs → Type 0
IsLeftBy (through rules limit from) p c rest = rest ≡ walk_rest rules p 0 limit from c.documents
IsLeftBy (listed texts) p c rest = ListsRest texts p c.documents rest
IsLeftBy (ordered rules i skip limit from last) p c rest =
    OrdersRest rules i skip limit from last p c rest

-- What is asked of a version: that it has these collections; and, where taking back the turn ends
-- no cursor that reads it, that it has had them since the turn began.
abbrev pub HasFor : {D : Type 0} → Bool → (D → History) → State D → Version → List Collection
    → Type 0
HasFor true history file version collections = HasVersion history file version collections
HasFor false history file version collections = HasSinceStart history file version collections

-- These documents are what the walk is still to give of the collection of its number, as its
-- version has it. Whether taking back the turn ends its cursor is said first.
pub record ReadsRest {D : Type 0} (passing : Bool) (history : D → History) (file : State D)
    (w : HeldWalk) (rest : List Pairs) : Type 0 where
  pub collections : List Collection
  pub had : HasFor passing history file w.version collections
  pub home : Collection
  pub numbered : IsNumbered collections home w.number
  pub stored : All IsStored home.documents
  pub left : IsLeftBy w.way w.projection home rest

-- Where the turn has changed something, taking it back ends each cursor that it opened or advanced.
abbrev pub passes : Bool → HeldCursor → Bool
passes changed h = h.cursor.touched && changed

-- what is left of a cursor that holds no documents is what its walk is still to give
abbrev pub IsTied : {D : Type 0} → Bool → (D → History) → State D → HeldCursor → Type 0
IsTied changed history file h =
    MatchOption h.walk ⊤ (λ w. ReadsRest (passes changed h) history file w h.cursor.rest)

-- ---- pins

-- the commit whose version a walk pins, before others
abbrev pub with_pin : Option HeldWalk → List ℕ → List ℕ
with_pin None pins = pins
with_pin (Some w) pins = w.version.generation ∷ pins

-- the commits that cursors pin, once for each cursor
abbrev pub pins_by : List HeldCursor → List ℕ
pins_by [] = []
pins_by (h ∷ hs) = with_pin h.walk (pins_by hs)

-- While the disk keeps its word and until the file stops, what is left of each cursor is what its
-- walk gives. Nothing is pinned but for the cursors. Whether the turn has changed something is said
-- first.
pub record AreTied {D : Type 0} (changed : Bool) (history : D → History) (file : State D)
    (list : List HeldCursor) : Type 0 where
  pub each : is_stopped file ≡ false → KeepsWord (disk_history history file)
      → AllByRecursion (IsTied changed history file) list
  pub pins : (n : ℕ) → times n (pins_of file) ≡ times n (pins_by list)

-- The same, but for one pin of a version more, which no cursor has.
pub record TiedBeside {D : Type 0} (changed : Bool) (history : D → History) (file : State D)
    (version : Version) (list : List HeldCursor) : Type 0 where
  pub each : is_stopped file ≡ false → KeepsWord (disk_history history file) →
      AllByRecursion (IsTied changed history file) list
  pub pins : (n : ℕ) → times n (pins_of file)
      ≡ times n (version.generation ∷ pins_by list)
