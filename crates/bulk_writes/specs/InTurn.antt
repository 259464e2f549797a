-- The writes of one statement each that a write of several consists of, and commands that are run
-- one after the other.
use Rattle.std.specs.Prelude.{ℕ, List, [], ◌∷◌, map, Result, Ok}
use Rattle.bson.specs.Tree.{Pairs}
use Rattle.outcome.specs.Outcome.{◌>>=◌}
use Rattle.path.specs.declared.refusal.Refusal.{Refusal}
use Rattle.command_model.specs.Command.{Command, insert, delete, update}
use Rattle.command_model.specs.Delete.{Deletion}
use Rattle.command_model.specs.Update.{UpdateStatement}
use Rattle.database_model.specs.Step.{run}
use Rattle.database_model.specs.World.{World}

abbrev pub insert_one : List ℕ → Pairs → Command
insert_one name ps = insert (record { namespace = name; documents = ps ∷ [] })

abbrev pub delete_one : List ℕ → Deletion → Command
delete_one name d = delete (record { namespace = name; deletions = d ∷ [] })

abbrev pub update_one : List ℕ → UpdateStatement → Command
update_one name s = update (record { namespace = name; statements = s ∷ [] })

-- the writes of one statement each, in the order of the statements
abbrev pub singles : Command → List Command
singles (insert c) = map (insert_one c.namespace) c.documents
singles (delete c) = map (delete_one c.namespace) c.deletions
singles (update c) = map (update_one c.namespace) c.statements
singles other = other ∷ []

-- Commands one after the other, each over what those before it left: the world after them and their
-- replies, or the first refusal.
abbrev pub run_in_turn : World → ℕ → List Command → Result (World × List Pairs) Refusal
run_in_turn world connection [] = Ok (world, [])
run_in_turn world connection (c ∷ cs) = do
  first ← run world connection c
  later ← run_in_turn first.0 connection cs
  Ok (later.0, first.1 ∷ later.1)
