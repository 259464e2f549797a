-- Which collections an image of a disk holds.
use Rattle.std.specs.Prelude.{ℕ, List}
use Rattle.tree_model.specs.Keys.{Entry}
use Rattle.roots.specs.Image.{StandsFor}
use Rattle.entry_model.specs.State.{Collection}
use Rattle.entry_model.specs.StateEntries.{Spells}
use Rattle.entry_model.specs.LawfulState.{IsLawfulState}

-- The entries of the tree that the image's root names spell these collections, which are lawful.
pub record HoldsState (image : ℕ → List ℕ) (collections : List Collection) : Type 0 where
  pub entries : List Entry
  pub stands : StandsFor image entries
  pub spells : Spells entries collections
  pub state : IsLawfulState collections
