-- `insert`: all documents are stored, or none.
use Rattle.std.specs.Prelude.{◌&&◌, ℕ, Bool, not, nat_le, List, length, codes, Result, Ok, is_some}
use Rattle.bson.specs.Tree.{Pairs, no_pairs, pair}
use Rattle.outcome.specs.Outcome.{◌>>=◌, unless}
use Rattle.path.specs.declared.refusal.Refusal.{Refusal}
use Rattle.path.specs.declared.refusal.Refusal.TheVariants as refusals
use Rattle.command_model.specs.Insert.{Insert}
use Rattle.database_model.specs.World.{World, collection_of}
use Rattle.entry_model.specs.State.{Collection, find_collection, put_collection}
use Rattle.database_model.specs.Documents.{insert_all}
use Rattle.database_model.specs.Refusals.{int}

-- a collection of this name would be one too many
abbrev pub is_full : List Collection → List ℕ → Bool
is_full cs name = nat_le 1000 (length cs) && not (is_some (find_collection cs name))

-- the collections with these documents, or the first refusal
abbrev pub inserted : List Collection → List ℕ → List Pairs → Result (List Collection) Refusal
inserted cs name documents =
    unless (is_full cs name) refusals.TooMany (do
      next ← insert_all (collection_of cs name) documents
      Ok (put_collection next cs))

-- a missing collection is made, where there are not 1,000 yet
unfoldable pub run_insert : World → Insert → Result (World × Pairs) Refusal
run_insert world c =
    unless (nat_le 1000 (length world.collections)
    && not (is_some (find_collection world.collections c.namespace))) refusals.TooMany (do
      next ← insert_all (collection_of world.collections c.namespace) c.documents
      Ok (
        record world { collections = put_collection next world.collections },
        pair (codes "n") (int (length c.documents)) no_pairs,
      ))
