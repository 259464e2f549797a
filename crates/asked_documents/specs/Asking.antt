-- The collection that a query asks, and a filter of what it asks for.
use Rattle.std.specs.Prelude.{◌≡◌, ℕ, Bool, true, List, All}
use Rattle.bson.specs.Tree.{Pairs}
use Rattle.filter.specs.Condition.{Conditions}
use Rattle.filter.specs.Matches.{matches}
use Rattle.collections.specs.Lookups.{IsNumbered}
use Rattle.database_model.specs.Lawful.{IsStored}
use Rattle.entry_model.specs.State.{Collection}
use Rattle.entries.specs.declared.catalogue_reading.Catalogued.{Catalogued}

-- one of the collections, of which the catalogue has this, and whose documents are such as commands
-- store
pub record IsAsked (home : Catalogued) (now : List Collection) (c : Collection) : Type 0 where
  pub numbered : IsNumbered now c home.number
  pub indexed : c.indexes ≡ home.indexes.items
  pub stored : All IsStored c.documents

-- the collection of this number, whose documents are such as commands store
pub record IsAskedIn (number : ℕ) (now : List Collection) (c : Collection) : Type 0 where
  pub numbered : IsNumbered now c number
  pub stored : All IsStored c.documents

-- the filter matches each document that passes
abbrev pub AsksMatching : (Pairs → Bool) → Conditions → Type 0
AsksMatching passes rs = (d : Pairs) → passes d ≡ true → matches rs d ≡ true
