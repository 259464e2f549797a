-- `listCollections`: the names of a database's collections, in their order, all in one batch.
use Rattle.std.specs.Prelude.{ℕ, nat_eq, if◌then◌else◌, List, [], ◌∷◌, ◌++◌, length, map, drop}
use Rattle.std.specs.Prelude.{codes, Option, Some, None, Result, Ok}
use Rattle.std.specs.List.{starts_with}
use Rattle.bson.specs.Tree.{Pairs, no_pairs, pair}
use Rattle.path.specs.declared.refusal.Refusal.{Refusal}
use Rattle.command_model.specs.ListCollections.{ListCollections}
use Rattle.database_model.specs.World.{World}
use Rattle.entry_model.specs.State.{Collection}
use Rattle.database_model.specs.Cursors.{cursor_reply}
use Rattle.database_model.specs.Refusals.{words}

-- what stands behind this front of a namespace
abbrev pub name_in : List ℕ → List ℕ → Option (List ℕ)
name_in front namespace =
    if starts_with nat_eq namespace front then Some (drop (length front) namespace) else None

abbrev pub with_name : Option (List ℕ) → List (List ℕ) → List (List ℕ)
with_name None names = names
with_name (Some name) names = name ∷ names

-- the names behind this front, in the order of the collections
abbrev pub names_in : List ℕ → List Collection → List (List ℕ)
names_in front [] = []
names_in front (c ∷ cs) = with_name (name_in front c.name) (names_in front cs)

-- the same of names that come with numbers
abbrev pub names_behind : List ℕ → List (List ℕ × ℕ) → List (List ℕ)
names_behind front [] = []
names_behind front (n ∷ ns) = with_name (name_in front n.0) (names_behind front ns)

-- what is said of a collection
abbrev pub listed : List ℕ → Pairs
listed name =
    pair (codes "name") (words name) (pair (codes "type") (words (codes "collection")) no_pairs)

-- the collections of a database, by their names without it
unfoldable pub run_list_collections : World → ListCollections → Result (World × Pairs) Refusal
run_list_collections world c = Ok (
  world,
  cursor_reply (codes "firstBatch")
      (map listed (names_in (c.database ++ codes ".") world.collections)) 0
      (c.database ++ codes ".$cmd.listCollections"),
)
