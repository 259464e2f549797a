-- The pages that a tree reaches.
use Rattle.std.specs.Prelude.{◌≡◌, ◌⊎◌, ℕ, ◌+◌, ◌≤◌, List, [], ◌∷◌}
use Rattle.tree_model.specs.Keys.{Entry, times}
use Rattle.tree_model.specs.Store.{Store}
use Rattle.tree_model.specs.Tree.{Body, IsTree, entries_of, pages_of}

-- no page stands there twice
abbrev pub AreOnce : List ℕ → Type 0
AreOnce pages = (n : ℕ) → times n pages ≤ 1

-- the tree whose root is this page reaches these pages and has these entries
pub record HasTree (s : Store) (root : ℕ) (pages : List ℕ) (entries : List Entry) : Type 0 where
  pub d : ℕ
  pub body : Body d
  pub tree : IsTree s root d body
  pub pages_are : pages ≡ root ∷ pages_of d body
  pub entries_are : entries ≡ entries_of d body

-- The same, where root 0 is the empty tree.
abbrev pub HasMap : Store → ℕ → List ℕ → List Entry → Type 0
HasMap s root pages entries =
    ((root ≡ 0) × ((pages ≡ []) × (entries ≡ []))) ⊎ HasTree s root pages entries

-- The pages reached now are those reached before, less those retired, with those made.
abbrev pub AreTurned : Store → Store → List ℕ → List ℕ → Type 0
AreTurned old new before after =
    (n : ℕ) → times n after + times n new.retired + times n old.made ≡ times n before
    + times n old.retired + times n new.made
