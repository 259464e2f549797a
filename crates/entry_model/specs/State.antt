-- What a database holds: collections with their documents and the definitions of their indexes.
use Rattle.std.specs.Prelude.{ℕ, pos, Bool, ◌==◌, if◌then◌else◌, List, [], ◌∷◌, codes, Option, Some}
use Rattle.std.specs.Prelude.{None, unwrap_or}
use Rattle.std.specs.Str.{bytes_eq}
use Rattle.std.specs.List.{list_any}
use Rattle.std.specs.Ordering.{nat_cmp}
use Rattle.std.specs.Cmp.Lexicographic.{slice_cmp}
use Rattle.std.specs.declared.cmp.Ordering.{Ordering}
use Rattle.std.specs.declared.cmp.Ordering.TheVariants as orders
use Rattle.bson.specs.Tree.{Tree, scalar, null, int32, text, Pairs}
use Rattle.bson.specs.Lookup.{lookup}
use Rattle.index.specs.Definition.{Definition}

-- A namespace, the number that its entries are kept under, its documents in ascending order of
-- `_id`, and its indexes in the order of making. The index on `_id` isn't among them. A state is a
-- list of these in ascending order of their names, so that equal states are one list.
pub record Collection : Type 0 where
  pub name : List ℕ
  pub number : ℕ
  pub documents : List Pairs
  pub indexes : List Definition

abbrev pub int : ℕ → Tree
int n = scalar (int32 (pos n))

abbrev pub words : List ℕ → Tree
words bytes = scalar (text bytes)

-- by what a stored document is found
abbrev pub key_of : Pairs → Tree
key_of ps = unwrap_or (lookup ps (codes "_id")) (scalar null)

abbrev pub empty_collection : List ℕ → ℕ → Collection
empty_collection name number =
    record { name = name; number = number; documents = []; indexes = [] }

-- ---- among the others

abbrev pub find_collection : List Collection → List ℕ → Option Collection
find_collection [] name = None
find_collection (c ∷ cs) name = if bytes_eq name c.name then Some c else find_collection cs name

-- a collection has this number
abbrev pub uses : List Collection → ℕ → Bool
uses cs n = list_any (λ c. c.number == n) cs

abbrev pub by_order : {X : Type 0} → Ordering → X → X → X → X
by_order orders.Less less equal greater = less
by_order orders.Equal less equal greater = equal
by_order orders.Greater less equal greater = greater

-- the collection in place of the one of its name, or in its order among the others
abbrev pub put_collection : Collection → List Collection → List Collection
put_collection new [] = new ∷ []
put_collection new (c ∷ cs) =
    by_order (slice_cmp nat_cmp new.name c.name)
    (new ∷ c ∷ cs) (new ∷ cs) (c ∷ put_collection new cs)

-- the collections without the one of this name
abbrev pub without_collection : List ℕ → List Collection → List Collection
without_collection name [] = []
without_collection name (c ∷ cs) =
    if bytes_eq name c.name then cs else c ∷ without_collection name cs
