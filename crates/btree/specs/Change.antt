-- Edits of a tree's children.
use Rattle.std.specs.Prelude.{◌≡◌, ℕ, ◌⊎◌, ◌≤◌, List, [], length, Option, Some, None, Result}
use Rattle.std.specs.Prelude.{MatchResult}
use Rattle.tree_model.specs.Keys.{Edit, Entry, times}
use Rattle.btree.specs.Loose.{Slot, first_or}
use Rattle.tree_model.specs.Reach.{HasMap}
use Rattle.tree_model.specs.Store.{HasCause, KeepsWord, Store}
use Rattle.tree_model.specs.Reach.{AreTurned}
use Rattle.btree.specs.Turn.{IsHeld, IsUpTo, NodeModel}
use Rattle.tree_model.specs.declared.pages.TreeFault.{TreeFault}
use Rattle.tree_model.specs.declared.pages.TreeFault.TheVariants.{Full}

pub record IsHeldBehind (s : Store) (base : ℕ) (between high : Option (List ℕ))
    (entries : List Entry) (pages : List ℕ) (model : NodeModel) : Type 0 where
  pub mid : List ℕ
  pub is : between ≡ Some mid
  pub held : IsHeld s base mid high entries pages model
  pub within : IsUpTo mid high

-- What is behind a bound, if there is anything.
abbrev pub IsBehind : Store → ℕ → Option (List ℕ) → Option (List ℕ) → List Entry → List ℕ
    → NodeModel
    → Type 0
IsBehind s base between high entries pages model =
    ((model.slots ≡ []) × (between ≡ high) × (entries ≡ []) × ((n : ℕ) → times n pages ≡ 0))
    ⊎ IsHeldBehind s base between high entries pages model

-- The first child's key is the low bound, where there is an edit.
abbrev pub BeginsAt : List ℕ → List Edit → List Slot → Type 0
BeginsAt low edits slots = (length edits ≡ 0) ⊎ (first_or None slots ≡ Some low)

-- ---- the whole tree

-- The tree below this root has these entries. It reaches the pages from before, less those retired,
-- with those made.
pub record IsChanged (old new : Store) (root : ℕ) (entries : List Entry)
    (before : List ℕ) : Type 0 where
  pub after : List ℕ
  pub map : HasMap new root after entries
  pub turned : AreTurned old new before after

-- A tree of more than 32 levels has at least 2^32 entries.
abbrev pub IsTooHigh : List Entry → TreeFault → Type 0
IsTooHigh entries e = (e ≡ Full) × (4294967296 ≤ length entries)

-- While the device keeps its word: the root of a tree of these entries, or a fault with its cause.
abbrev pub Changes : Store → Store → List Entry → List ℕ → Result ℕ TreeFault → Type 0
Changes old new entries before result = KeepsWord new → MatchResult result
    (λ root. IsChanged old new root entries before) (λ e. HasCause old new e ⊎ IsTooHigh entries e)
