-- `listIndexes`: what defines the indexes of a collection, all in one batch (MongoDB manual,
-- "listIndexes").
use Rattle.std.specs.Prelude.{ℕ, Bool, true, false, List, [], ◌∷◌, map, codes, Result, Ok}
use Rattle.bson.specs.Tree.{scalar, boolean, document, Pairs, no_pairs, pair}
use Rattle.outcome.specs.Outcome.{◌>>=◌, or_refused}
use Rattle.path.specs.declared.refusal.Refusal.{Refusal}
use Rattle.path.specs.declared.refusal.Refusal.TheVariants as refusals
use Rattle.command_model.specs.ListIndexes.{ListIndexes}
use Rattle.index.specs.Definition.{Definition, key_document}
use Rattle.entry_model.specs.State.{find_collection}
use Rattle.database_model.specs.Cursors.{cursor_reply}
use Rattle.database_model.specs.Refusals.{int, words}
use Rattle.database_model.specs.World.{World}

-- `unique` is said only where it is so
abbrev pub unique_pairs : Bool → Pairs
unique_pairs true = pair (codes "unique") (scalar (boolean true)) no_pairs
unique_pairs false = no_pairs

-- what is said of an index with this key and this name
abbrev pub described : Pairs → List ℕ → Bool → Pairs
described key name is_unique =
    pair (codes "key") (document key)
    (pair (codes "name") (words name) (unique_pairs is_unique))

-- of the index on `_id`, which every collection has
abbrev pub described_id : Pairs
described_id = described (pair (codes "_id") (int 1) no_pairs) (codes "_id_") true

abbrev pub described_index : Definition → Pairs
described_index i = described (key_document i.fields) i.name i.is_unique

-- of that on `_id` first, and of the others in the order of making
abbrev pub described_all : List Definition → List Pairs
described_all indexes = described_id ∷ map described_index indexes

-- the reply where the collection of this name has these indexes
abbrev pub indexes_reply : List ℕ → List Definition → Pairs
indexes_reply namespace indexes =
    cursor_reply (codes "firstBatch") (described_all indexes) 0 namespace

unfoldable pub run_list_indexes : World → ListIndexes → Result (World × Pairs) Refusal
run_list_indexes world c = do
  found ← or_refused (find_collection world.collections c.namespace) refusals.NamespaceNotFound
  Ok (world, indexes_reply c.namespace found.indexes)
