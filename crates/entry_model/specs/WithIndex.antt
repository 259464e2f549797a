-- A collection with an index more, made of the documents that it has already, and with one less
-- (MongoDB manual, "createIndexes" and "dropIndexes").
use Rattle.std.specs.Prelude.{[], ◌∷◌, true, ◌++◌, map, Result, Ok, ℕ}
use Rattle.std.specs.List.{remove}
use Rattle.outcome.specs.Outcome.{◌>>=◌}
use Rattle.bson.specs.Tree.{Pairs}
use Rattle.path.specs.declared.refusal.Refusal.{Refusal}
use Rattle.index.specs.Definition.{Definition}
use Rattle.entry_model.specs.State.{Collection}
use Rattle.entry_model.specs.Entering.{DocumentWrite, enter_each}

-- the collection before its first document, with this index alone
abbrev pub alone : Collection → Definition → Collection
alone c i = record c { documents = []; indexes = i ∷ [] }

abbrev pub as_new : Pairs → DocumentWrite
as_new d = record { is_new = true; document = d }

-- The collection with an index more: each of its documents enters, in ascending order of `_id`,
-- where the index stands alone. The first refusal is that of the whole.
abbrev pub with_index : Collection → Definition → Result Collection Refusal
with_index c i = do
  made ← enter_each (alone c i) (map as_new c.documents)
  Ok (record c { indexes = c.indexes ++ made.indexes })

-- the collection without its index at a place
abbrev pub without_index_at : Collection → ℕ → Collection
without_index_at c at = record c { indexes = remove c.indexes at }
