-- What a write of several statements comes to, against its statements one by one.
use Rattle.std.specs.Prelude.{◌≡◌, ◌≢◌, ◌-◌, ℕ, List, [], ◌∷◌, length, map, codes, Ok, sum}
use Rattle.bson.specs.Tree.{Pairs, no_pairs, pair}
use Rattle.outcome.specs.Outcome.{◌>>=◌}
use Rattle.command_model.specs.Command.{insert, delete}
use Rattle.command_model.specs.Delete.{Deletion, Delete}
use Rattle.command_model.specs.Insert.{Insert}
use Rattle.database_model.specs.Delete.{after_deletion}
use Rattle.database_model.specs.Refusals.{int, total}
use Rattle.database_model.specs.Step.{run}
use Rattle.database_model.specs.World.{World, documents_of}
use Rattle.bulk_writes.specs.InTurn.{run_in_turn, singles}

-- ---- insert

abbrev pub n_reply : ℕ → Pairs
n_reply n = pair (codes "n") (int n) no_pairs

-- one for each document
abbrev pub ones : List Pairs → List Pairs
ones ds = map (λ d. n_reply 1) ds

-- An insert comes to what the inserts of its documents come to, one after the other: they leave the
-- same world, or are refused for the same reason. Each counts one document, and the whole counts as
-- many as there are.
pub record InsertsInTurn (world : World) (connection : ℕ) (c : Insert) : Type 0 where
  pub same : run_in_turn world connection (singles (insert c))
      ≡ (run world connection (insert c) >>= (λ x. Ok (x.0, ones c.documents)))
  pub counted : (new : World) (reply : Pairs) → run world connection (insert c) ≡ Ok (new, reply)
      → reply ≡ n_reply (length c.documents)

abbrev pub InsertInTurn : Type 0
InsertInTurn = (world : World) (connection : ℕ) (c : Insert) → c.documents ≢ []
    → InsertsInTurn world connection c

-- ---- delete

-- how many documents each of the statements takes away
abbrev pub taken_by : List Deletion → List Pairs → List ℕ
taken_by [] ds = []
taken_by (d ∷ rest) ds =
    (length ds - length (after_deletion d ds)) ∷ taken_by rest (after_deletion d ds)

abbrev pub taken_in : World → Delete → List ℕ
taken_in world c = taken_by c.deletions (documents_of world.collections c.namespace)

abbrev pub total_reply : ℕ → Pairs
total_reply n = pair (codes "n") (total n) no_pairs

-- A delete leaves the world that the deletes of its statements leave, one after the other. Each
-- counts what it takes away, and the whole counts all of that.
pub record DeletesInTurn (world : World) (connection : ℕ) (c : Delete) : Type 0 where
  pub new : World
  pub whole : run world connection (delete c) ≡ Ok (new, total_reply (sum (taken_in world c)))
  pub same : run_in_turn world connection (singles (delete c))
      ≡ Ok (new, map total_reply (taken_in world c))

abbrev pub DeleteInTurn : Type 0
DeleteInTurn = (world : World) (connection : ℕ) (c : Delete) → c.deletions ≢ []
    → DeletesInTurn world connection c
