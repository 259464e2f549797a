-- `dropIndexes`: indexes of a collection are taken away (MongoDB manual, "dropIndexes").
use Rattle.std.specs.Prelude.{ℕ, Bool, true, not, List, [], codes, Option, Some, None, Result, Ok}
use Rattle.std.specs.Prelude.{Err}
use Rattle.std.specs.List.{filter, list_any}
use Rattle.std.specs.Str.{bytes_eq}
use Rattle.bson.specs.Tree.{Pairs, no_pairs, pair}
use Rattle.outcome.specs.Outcome.{◌>>=◌, unless}
use Rattle.path.specs.declared.refusal.Refusal.{Refusal}
use Rattle.path.specs.declared.refusal.Refusal.TheVariants as refusals
use Rattle.command_model.specs.DropIndexes.{DropIndexes, DroppedIndexes, all, named}
use Rattle.index.specs.Definition.{Definition}
use Rattle.entry_model.specs.State.{Collection, find_collection, put_collection}
use Rattle.database_model.specs.DropCollection.{index_count}
use Rattle.database_model.specs.Refusals.{int}
use Rattle.database_model.specs.World.{World}

-- ---- which stay

abbrev pub is_dropped : DroppedIndexes → Definition → Bool
is_dropped all i = true
is_dropped (named name) i = bytes_eq i.name name

-- those that aren't dropped
abbrev pub remaining : DroppedIndexes → List Definition → List Definition
remaining dropped is = filter (λ i. not (is_dropped dropped i)) is

-- The indexes that stay. That on `_id` can't be dropped by its name, and one of the name has to be
-- there.
abbrev pub left_by : DroppedIndexes → List Definition → Result (List Definition) Refusal
left_by all is = Ok []
left_by (named name) is =
    unless (bytes_eq name (codes "_id_")) refusals.BadValue
    (unless (not (list_any (is_dropped (named name)) is)) refusals.IndexNotFound
    (Ok (remaining (named name) is)))

-- ---- what becomes of the collections

-- the collection with the indexes that stay
abbrev pub without_indexes : DroppedIndexes → Collection → Result Collection Refusal
without_indexes dropped c = do
  left ← left_by dropped c.indexes
  Ok (record c { indexes = left })

-- so the one of a name, which has to be there
abbrev pub dropped_in : DroppedIndexes → List Collection → Option Collection
    → Result (List Collection) Refusal
dropped_in dropped cs None = Err refusals.NamespaceNotFound
dropped_in dropped cs (Some c) = do
  next ← without_indexes dropped c
  Ok (put_collection next cs)

abbrev pub index_dropped : List Collection → List ℕ → DroppedIndexes
    → Result (List Collection) Refusal
index_dropped cs name dropped = dropped_in dropped cs (find_collection cs name)

-- ---- the command

-- the reply where there were so many indexes, with that on `_id`
abbrev pub drop_indexes_reply : ℕ → Pairs
drop_indexes_reply count = pair (codes "nIndexesWas") (int count) no_pairs

unfoldable pub run_drop_indexes : World → DropIndexes → Result (World × Pairs) Refusal
run_drop_indexes world c = do
  collections ← index_dropped world.collections c.namespace c.indexes
  Ok (
    record world { collections = collections },
    drop_indexes_reply (index_count world.collections c.namespace),
  )
