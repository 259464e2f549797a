-- The entries of an index that is made of the documents which its collection has already, and of
-- one that is dropped.
use Rattle.std.specs.Prelude.{◌≡◌, ◌≢◌, ℕ, List, [], ◌∷◌, ◌++◌, get_or, map, Ok, Err}
use Rattle.std.specs.Prelude.{Some, All}
use Rattle.bson.specs.Tree.{Pairs}
use Rattle.tree_model.specs.Keys.{Edit}
use Rattle.path.specs.declared.refusal.Refusal.{Refusal}
use Rattle.index.specs.Definition.{Definition, IsDefinition}
use Rattle.entry_model.specs.Entering.{AreIndexed, enter_each}
use Rattle.entries.specs.IndexBuilding.{HasPutEntries, HasRemovedEntries}
use Rattle.entry_model.specs.LawfulState.{IsKept, IsLawfulState}
use Rattle.entry_model.specs.State.{Collection, find_collection, put_collection}
use Rattle.entry_model.specs.StateEntries.{Leads}
use Rattle.entries.specs.declared.making.NewEntries.{NewEntries}
use Rattle.entry_model.specs.WithIndex.{alone, as_new, with_index, without_index_at}

-- ---- document after document

-- These first documents of a collection have entered the index, and its entries are those of them.
pub record HasEntries (c : Collection) (i : Definition) (done : List Pairs)
    (n : NewEntries) : Type 0 where
  pub number : n.number ≡ c.number
  pub index : n.index.number ≡ i.number
  pub entered : enter_each (alone c i) (map as_new done)
      ≡ Ok (record c { documents = done; indexes = n.index ∷ [] })
  pub indexed : AreIndexed done (n.index ∷ [])
  pub entries : HasPutEntries [] n.entries n.number n.index done

-- it begins with none
abbrev pub Begins : ℕ → Definition → NewEntries → Type 0
Begins number i n =
    (c : Collection) → c.number ≡ number → IsDefinition i → HasEntries c i [] n

-- Wherever the old entries are those of the documents before this one, the new ones are those with
-- it.
abbrev pub TakesNext : NewEntries → NewEntries → Pairs → Type 0
TakesNext old new d =
    (c : Collection) (i : Definition) (done rest : List Pairs) → IsKept c
    → c.documents ≡ done ++ d ∷ rest
    → HasEntries c i done old
    → HasEntries c i (done ++ d ∷ []) new

-- Wherever they are, the index is refused for this document.
abbrev pub RefusesNext : NewEntries → Pairs → Refusal → Type 0
RefusesNext old d e =
    (c : Collection) (i : Definition) (done rest : List Pairs) → IsKept c
    → c.documents ≡ done ++ d ∷ rest
    → HasEntries c i done old
    → with_index c i ≡ Err e

-- ---- the collection with it

-- Wherever the old edits lead to a lawful state with a collection of this name, this number and
-- these indexes, none of which has the new one's number, and the entries are those of all its
-- documents, the new edits lead to the state in which it has the index.
abbrev pub MakesIndexOf : List Edit → List Edit → List ℕ → ℕ → List Definition → NewEntries → Type 0
MakesIndexOf old new name number indexes n =
    (a b : List Collection) (c : Collection) (i : Definition) → Leads old a b → IsLawfulState b
    → find_collection b name ≡ Some c
    → c.number ≡ number → c.indexes ≡ indexes → All (λ j. j.number ≢ i.number) indexes
    → HasEntries c i c.documents n
    → let next = record c { indexes = c.indexes ++ n.index ∷ [] } in
    (with_index c i ≡ Ok next) × Leads new a (put_collection next b)
    × IsLawfulState (put_collection next b)

-- ---- the collection without one

-- Wherever some edits lead to a lawful state with a collection of this name, this number and these
-- indexes, and the old ones have removals of all its documents' entries in the index at a place
-- behind them, the new ones lead to the state in which it is without that index.
abbrev pub DropsIndexAt : List Edit → List Edit → List ℕ → ℕ → List Definition → ℕ → Type 0
DropsIndexAt old new name number indexes at =
    (first : List Edit) (a b : List Collection) (c : Collection) (i : Definition) → Leads first a b
    → IsLawfulState b → find_collection b name ≡ Some c
    → c.number ≡ number → c.indexes ≡ indexes → i ≡ get_or indexes at i
    → HasRemovedEntries first old number i c.documents
    → let next = without_index_at c at in
    Leads new a (put_collection next b) × IsLawfulState (put_collection next b)
