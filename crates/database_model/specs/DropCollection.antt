-- `drop`: a collection is taken away with its documents and its indexes.
use Rattle.std.specs.Prelude.{ℕ, ◌+◌, not, List, length, codes, Result, Ok, is_some}
use Rattle.bson.specs.Tree.{Pairs, no_pairs, pair}
use Rattle.outcome.specs.Outcome.{◌>>=◌, unless}
use Rattle.path.specs.declared.refusal.Refusal.{Refusal}
use Rattle.path.specs.declared.refusal.Refusal.TheVariants as refusals
use Rattle.command_model.specs.DropCollection.{DropCollection}
use Rattle.database_model.specs.World.{World, indexes_or_none}
use Rattle.entry_model.specs.State.{Collection, find_collection, without_collection}
use Rattle.database_model.specs.Refusals.{int, words}

-- the collections without the one of this name
abbrev pub dropped : List Collection → List ℕ → Result (List Collection) Refusal
dropped cs name =
    unless (not (is_some (find_collection cs name))) refusals.NamespaceNotFound
    (Ok (without_collection name cs))

-- how many indexes the collection of this name has, with that of `_id`
abbrev pub index_count : List Collection → List ℕ → ℕ
index_count cs name = 1 + length (indexes_or_none (find_collection cs name))

-- the reply where it had so many
abbrev pub drop_reply : ℕ → List ℕ → Pairs
drop_reply count name =
    pair (codes "nIndexesWas") (int count) (pair (codes "ns") (words name) no_pairs)

unfoldable pub run_drop : World → DropCollection → Result (World × Pairs) Refusal
run_drop world c = do
  collections ← dropped world.collections c.namespace
  Ok (
    record world { collections = collections },
    drop_reply (index_count world.collections c.namespace) c.namespace,
  )
