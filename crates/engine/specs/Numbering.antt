-- The number that a collection more gets.
use Rattle.std.specs.Prelude.{◌≡◌, ◌<◌, ◌≤◌, ℕ, Bool, false, List, [], length, map, slice_index_or}
use Rattle.path.specs.declared.refusal.Refusal.{Refusal}
use Rattle.path.specs.declared.refusal.Refusal.TheVariants as refusals
use Rattle.entry_model.specs.State.{Collection, empty_collection, uses}
use Rattle.collections.specs.declared.lookups.Name.{Name}
use Rattle.database_model.specs.World.{unused}

-- collections that have the numbers of these names
abbrev pub numbered : List Name → List Collection
numbered names = map (λ n. empty_collection [] n.number) names

-- which of the numbers up to 1,000 the names have
pub record AreMarked (names : List Name) (used : List Bool) : Type 0 where
  pub whole : length used ≡ 1001
  pub marked : (n : ℕ) → n < 1001 → slice_index_or used n false ≡ uses (numbered names) n

-- there is room for a collection more, and this is the least number that none has
abbrev pub IsNewNumber : List Collection → ℕ → Type 0
IsNewNumber now n = (length now < 1000) × (n ≡ unused now)

-- there are as many collections as there may be
abbrev pub IsTooMany : List Collection → Refusal → Type 0
IsTooMany now e = (e ≡ refusals.TooMany) × (1000 ≤ length now)
