-- A moment of a server: whether its disk had kept its word, the disk's clock, how often the device
-- had failed and a page was asked for and none was free, and the number of the last commit.
use Rattle.std.specs.Prelude.{◌⊎◌, ℕ, ◌+◌, Bool, IsTrue, ◌≤◌, List, [], ◌∷◌}
use Rattle.page.specs.History.{History, IsImage}
use Rattle.entry_model.specs.State.{Collection}
use Rattle.opening.specs.Holding.{HoldsCollections}
use Rattle.server.specs.ServerState.{ServerState}

pub record Moment : Type 0 where
  pub keeps_word : Bool
  pub clock : ℕ
  pub failures : ℕ
  pub generation : ℕ
  pub failed_allocations : ℕ

-- A later moment of the same server: the disk had kept its word before, its clock and the number of
-- the last commit have not fallen, nor, while it keeps its word, how often it had failed and no
-- page was free.
pub record Follows (old new : Moment) : Type 0 where
  pub word : IsTrue new.keeps_word → IsTrue old.keeps_word
  pub clock : old.clock ≤ new.clock
  pub failures : IsTrue new.keeps_word → old.failures ≤ new.failures
  pub takes : IsTrue new.keeps_word → old.failed_allocations ≤ new.failed_allocations
  pub generation : old.generation ≤ new.generation

-- with the end of one turn between them at most, which commits once or not at all
abbrev pub FollowsInTurn : Moment → Moment → Type 0
FollowsInTurn old new = Follows old new × (new.generation ≤ old.generation + 1)

-- where a server stands: the moment, and its state
pub record Instant : Type 0 where
  pub moment : Moment
  pub state : ServerState

-- the disk had kept its word until then
abbrev pub HasKeptWord : Instant → Type 0
HasKeptWord at = IsTrue at.moment.keeps_word

-- The end of a turn that answered: when it was, and the collections then.
pub record TurnEnd : Type 0 where
  pub at : Moment
  pub collections : List Collection

abbrev pub end_at : Instant → TurnEnd
end_at last = record { at = last.moment; collections = last.state.world.collections }

-- the collections after the last of these turns, or those before them
abbrev pub last_collections : List Collection → List TurnEnd → List Collection
last_collections first [] = first
last_collections first (e ∷ later) = last_collections e.collections later

abbrev pub last_moment : Moment → List TurnEnd → Moment
last_moment first [] = first
last_moment first (e ∷ later) = last_moment e.at later

-- Each turn's end follows the one before, the first one the first moment, and the last moment the
-- last one.
abbrev pub FollowInOrder : Moment → List TurnEnd → Moment → Type 0
FollowInOrder first [] last = FollowsInTurn first last
FollowInOrder first (e ∷ later) last = FollowsInTurn first e.at × FollowInOrder e.at later last

-- ---- what a crash may leave, in order of time

-- a crash at a moment from one to another leaves an image that has P
abbrev pub LeavesBetween : History → ℕ → ℕ → ((ℕ → List ℕ) → Type 0) → Type 0
LeavesBetween h from to P =
    (t : ℕ) → from ≤ t → t ≤ to → (image : ℕ → List ℕ) → IsImage (h.moment t) image → P image

abbrev pub HoldsEither : List Collection → List Collection → (ℕ → List ℕ) → Type 0
HoldsEither before after image = HoldsCollections image before ⊎ HoldsCollections image after

-- From each turn's end to the next one's, a crash leaves the collections of the one or of the
-- other, and from the last one's to now those after it or these.
abbrev pub LeavesInOrder : History → ℕ → List Collection → List TurnEnd → List Collection → Type 0
LeavesInOrder h from before [] now =
    (from ≤ h.clock) × LeavesBetween h from h.clock (HoldsEither before now)
LeavesInOrder h from before (e ∷ later) now =
    (from ≤ e.at.clock) × (e.at.clock ≤ h.clock)
    × LeavesBetween h from e.at.clock (HoldsEither before e.collections)
    × LeavesInOrder h e.at.clock e.collections later now
