-- What a file holds.
use Rattle.std.specs.Prelude.{ℕ, List}
use Rattle.entry_model.specs.State.{Collection}
use Rattle.collections.specs.Holding as files
use Rattle.database_model.specs.Lawful.{IsLawfulState}

-- The image holds these collections, which are lawful: the entries of the tree that its root names
-- spell them.
pub record HoldsCollections (image : ℕ → List ℕ) (collections : List Collection) : Type 0 where
  pub lawful : IsLawfulState collections
  pub file : files.HoldsState image collections
