-- What an edit at a path leaves as it was, said apart from how the edit is made.
use Rattle.std.specs.Prelude.{◌≡◌, ◌≢◌, ℕ, suc, max, ◌<◌, ◌≤◌, if◌then◌else◌, Option, Some, None}
use Rattle.std.specs.Prelude.{Result, Ok, List, [], ◌∷◌, ◌⊎◌}
use Rattle.path.specs.declared.refusal.Refusal.{Refusal}
use Rattle.std.specs.Str.{bytes_eq}
use Rattle.bson.specs.Tree.{Tree, scalar, null, document, array, Pairs, no_pairs, pair, Items}
use Rattle.bson.specs.Lawful.{IsPairs}
use Rattle.bson.specs.Lookup.{lookup}
use Rattle.bson.specs.Edits.{items_len, item_at}
use Rattle.path.specs.Parts.{index_of}
use Rattle.path.specs.Edits.{write_at, cut_at}

abbrev pub names : Pairs → List (List ℕ)
names no_pairs = []
names (pair name t ps) = name ∷ names ps

-- the name stands where it stood, or behind the others
abbrev pub with_name : List (List ℕ) → List ℕ → List (List ℕ)
with_name [] name = name ∷ []
with_name (other ∷ others) name =
    if bytes_eq name other then other ∷ others else other ∷ with_name others name

-- One field was given a value, of which `Below` speaks beside what stood there. The others are as
-- they were, in order.
pub record WritesField (Below : Option Tree → Tree → Type 0) (name : List ℕ)
    (ps qs : Pairs) : Type 0 where
  pub value : Tree
  pub written : lookup qs name ≡ Some value
  pub below : Below (lookup ps name) value
  pub others : (other : List ℕ) → other ≢ name → lookup qs other ≡ lookup ps other
  pub order : names qs ≡ with_name (names ps) name

-- One element was given a value, the others are as they were, and between them and an element past
-- the end stand nulls.
pub record WritesItem (Below : Option Tree → Tree → Type 0) (i : ℕ) (ts us : Items) : Type 0 where
  pub value : Tree
  pub written : item_at us i ≡ Some value
  pub below : Below (item_at ts i) value
  pub others : (j : ℕ) → j ≢ i → j < items_len ts → item_at us j ≡ item_at ts j
  pub nulls : (j : ℕ) → items_len ts ≤ j → j < i → item_at us j ≡ Some (scalar null)
  pub len : items_len us ≡ max (items_len ts) (suc i)

abbrev pub WritesItemAt : (Option Tree → Tree → Type 0) → Option ℕ → Items → Items → Type 0
WritesItemAt Below None ts us = ⊥
WritesItemAt Below (Some i) ts us = WritesItem Below i ts us

-- What stands at the front of the parts became `now`: at their end `End` says what came of what
-- stood there, and besides it nothing changed but the documents and nulls that were made on the
-- way.
module _ (End : Option Tree → Tree → Type 0) where
  abbrev pub Writes : List (List ℕ) → Option Tree → Tree → Type 0
  Writes [] old now = End old now
  Writes (name ∷ rest) None (document qs) = WritesField (Writes rest) name no_pairs qs
  Writes (name ∷ rest) (Some (document ps)) (document qs) = WritesField (Writes rest) name ps qs
  Writes (name ∷ rest) (Some (array ts)) (array us) =
      WritesItemAt (Writes rest) (index_of name) ts us
  Writes (name ∷ rest) old now = ⊥

abbrev pub Made : (Option Tree → Result Tree Refusal) → Option Tree → Tree → Type 0
Made made old now = made old ≡ Ok now

abbrev pub WritesOnlyThere : Type 0
WritesOnlyThere =
    (made : Option Tree → Result Tree Refusal) (name : List ℕ) (rest : List (List ℕ))
    (ps qs : Pairs)
    → write_at made (name ∷ rest) ps ≡ Ok qs
    → Writes (Made made) (name ∷ rest) (Some (document ps)) (document qs)

-- ---- removing

abbrev pub without_name : List (List ℕ) → List ℕ → List (List ℕ)
without_name [] name = []
without_name (other ∷ others) name =
    if bytes_eq name other then others else other ∷ without_name others name

-- the names once this is what is left of the field
abbrev pub names_left : Option Tree → List (List ℕ) → List ℕ → List (List ℕ)
names_left None others name = without_name others name
names_left (Some t) others name = others

-- The field went, or `Below` says what is left of it. The others are as they were, in order.
pub record CutsField (Below : Tree → Option Tree → Type 0) (name : List ℕ)
    (ps qs : Pairs) : Type 0 where
  pub absent : lookup ps name ≡ None → qs ≡ ps
  pub there : (t : Tree) → lookup ps name ≡ Some t → Below t (lookup qs name)
  pub others : (other : List ℕ) → other ≢ name → lookup qs other ≡ lookup ps other
  pub order : names qs ≡ names_left (lookup qs name) (names ps) name

-- An element became null, or `Below` says what is left of it. The others are as they were.
pub record CutsItem (Below : Tree → Option Tree → Type 0) (i : ℕ) (ts us : Items) : Type 0 where
  pub there : (t : Tree) → item_at ts i ≡ Some t
      → Below t (item_at us i) ⊎ (item_at us i ≡ Some (scalar null)) × Below t None
  pub others : (j : ℕ) → j ≢ i → item_at us j ≡ item_at ts j
  pub len : items_len us ≡ items_len ts

abbrev pub CutsItemAt : (Tree → Option Tree → Type 0) → Option ℕ → Items → Items → Type 0
CutsItemAt Below None ts us = us ≡ ts
CutsItemAt Below (Some i) ts us = CutsItem Below i ts us

-- What is left of a value without what stood at the end of the parts: nothing, where it stood there
-- itself.
abbrev pub Cuts : List (List ℕ) → Tree → Option Tree → Type 0
Cuts [] old left = left ≡ None
Cuts (name ∷ rest) (scalar s) left = left ≡ Some (scalar s)
Cuts (name ∷ rest) (document ps) (Some (document qs)) = CutsField (Cuts rest) name ps qs
Cuts (name ∷ rest) (array ts) (Some (array us)) = CutsItemAt (Cuts rest) (index_of name) ts us
Cuts (name ∷ rest) old left = ⊥

abbrev pub CutsOnlyThere : Type 0
CutsOnlyThere = (name : List ℕ) (rest : List (List ℕ)) (ps : Pairs) → IsPairs ps
    → Cuts (name ∷ rest) (document ps) (Some (document (cut_at (name ∷ rest) ps)))
