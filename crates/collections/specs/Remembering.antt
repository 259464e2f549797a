-- What is remembered of the catalogue, and how long it is right.
use Rattle.std.specs.Prelude.{◌≡◌, ℕ, List, Option, Some, IfSome, IsSomeAnd}
use Rattle.std.specs.Option.{option_map}
use Rattle.page.specs.History.{History, KeepsWord}
use Rattle.entries.specs.declared.catalogue_reading.Catalogued.{Catalogued}
use Rattle.entry_model.specs.LawfulState.{IsKept}
use Rattle.entry_model.specs.State.{Collection, find_collection}
use Rattle.entry_model.specs.StateEntries.{catalogue_entry}
use Rattle.collections.specs.Below.{HasBelow}
use Rattle.collections.specs.Lookups.{IsWithinLimits, catalogued_in, catalogued_of}
use Rattle.collections.specs.State.{State}
use Rattle.collections.specs.View.{disk_history}

-- it is what the catalogue says of each collection of which it says this value
pub record IsToldBy (value : List ℕ) (told : Catalogued) : Type 0 where
  pub says : (c : Collection) → IsKept c → value ≡ (catalogue_entry c).value
      → catalogued_of told ≡ catalogued_in c
  pub limits : IsWithinLimits told

-- What was told of the collection of a name, and the root page of a tree that says so, while it is
-- known to have that.
pub record Memory : Type 0 where
  pub namespace : List ℕ
  pub told : Catalogued
  pub root : Option ℕ

-- It was told of the collection of this name by this value, in the tree below this page.
pub record IsOf (root : ℕ) (namespace value : List ℕ) (memory : Memory) : Type 0 where
  pub there : memory.root ≡ Some root
  pub same : memory.namespace ≡ namespace
  pub told : IsToldBy value memory.told

-- it is what is remembered of the collection of this name in the tree below this page
abbrev pub TellsAgain : ℕ → List ℕ → Option Memory → Catalogued → Type 0
TellsAgain root namespace remembered told =
    IsSomeAnd remembered (λ m. (m.root ≡ Some root) × (m.namespace ≡ namespace)
    × (catalogued_of told ≡ catalogued_of m.told))

-- these collections have one of this name, of which the catalogue tells this
abbrev pub Tells : List ℕ → Catalogued → List Collection → Type 0
Tells namespace told now =
    Some (catalogued_of told) ≡ option_map catalogued_in (find_collection now namespace)

-- THE MEMORY IS RIGHT: while the disk keeps its word, whichever collections the tree below the
-- remembered page has, they tell what is remembered.
abbrev pub IsRemembered : {D : Type 0} → (D → History) → State D → Option Memory → Type 0
IsRemembered history c remembered = IfSome remembered (λ m. IfSome m.root (λ root.
    KeepsWord (disk_history history c) → (collections : List Collection)
    → HasBelow history c root collections → Tells m.namespace m.told collections))
