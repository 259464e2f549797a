-- What a command does to the world, and its reply.
use Rattle.std.specs.Prelude.{◌≡◌, ◌⊎◌, ℕ, Result, Ok, Err}
use Rattle.bson.specs.Tree.{Pairs, no_pairs, no_items}
use Rattle.bson_bytes.specs.declared.fault.BsonFault.{BsonFault}
use Rattle.outcome.specs.Outcome.{◌>>=◌}
use Rattle.path.specs.declared.refusal.Refusal.{Refusal}
use Rattle.path.specs.declared.refusal.Refusal.TheVariants as refusals
use Rattle.command_model.specs.Command.{Command, ping, insert, find}
use Rattle.command_model.specs.Command.{count, delete, update, aggregate}
use Rattle.command_model.specs.Command.{create, drop}
use Rattle.command_model.specs.Command.{list_collections, create_indexes, drop_indexes}
use Rattle.command_model.specs.Command.{list_indexes, explain, command_of}
use Rattle.command_model.specs.Command.{get_more, kill_cursors, hello}
use Rattle.database_model.specs.World.{World}
use Rattle.database_model.specs.Refusals.{refusal_reply, ok_reply}
use Rattle.database_model.specs.Hello.{run_hello}
use Rattle.database_model.specs.Insert.{run_insert}
use Rattle.database_model.specs.Find.{run_find}
use Rattle.database_model.specs.GetMore.{run_get_more}
use Rattle.database_model.specs.KillCursors.{run_kill_cursors}
use Rattle.database_model.specs.Count.{run_count}
use Rattle.database_model.specs.Delete.{run_delete}
use Rattle.database_model.specs.Aggregate.{run_aggregate}
use Rattle.database_model.specs.Create.{run_create}
use Rattle.database_model.specs.CreateIndexes.{run_create_indexes}
use Rattle.database_model.specs.DropCollection.{run_drop}
use Rattle.database_model.specs.DropIndexes.{run_drop_indexes}
use Rattle.database_model.specs.ListCollections.{run_list_collections}
use Rattle.database_model.specs.ListIndexes.{run_list_indexes}
use Rattle.database_model.specs.Explain.{run_explain}
use Rattle.database_model.specs.Update.{Updated, not_updated, run_statements}
use Rattle.database_model.specs.UpdateCommand.{run_update}

-- the table of what commands do
abbrev pub run : World → ℕ → Command → Result (World × Pairs) Refusal
run world connection ping = Ok (world, no_pairs)
run world connection hello = run_hello world connection
run world connection (insert c) = run_insert world c
run world connection (find c) = run_find world connection c
run world connection (get_more c) = run_get_more world connection c
run world connection (kill_cursors c) = run_kill_cursors world connection c
run world connection (count c) = run_count world c
run world connection (delete c) = run_delete world c
run world connection (update c) = run_update world c
run world connection (aggregate c) = run_aggregate world connection c
run world connection (create c) = run_create world c
run world connection (drop c) = run_drop world c
run world connection (list_collections c) = run_list_collections world c
run world connection (create_indexes c) = run_create_indexes world c
run world connection (drop_indexes c) = run_drop_indexes world c
run world connection (list_indexes c) = run_list_indexes world c
run world connection (explain c) = run_explain world c

-- a refusal leaves the world as it was
abbrev pub answered : World → Result (World × Pairs) Refusal → World × Pairs
answered world (Ok x) = (x.0, ok_reply x.1)
answered world (Err r) = (world, refusal_reply r)

abbrev pub read_and_run : World → ℕ → Pairs → Result (World × Pairs) Refusal
read_and_run world connection body = do
  command ← command_of body
  run world connection command

-- One command: the world after it and the reply. Bytes that are no document are refused.
abbrev pub step : World → ℕ → Result Pairs BsonFault → World × Pairs
step world connection (Ok body) = answered world (read_and_run world connection body)
step world connection (Err fault) = (world, refusal_reply refusals.InvalidBSON)

-- A refusal came beside the definition's step, for a cause of its own, which may speak of the world
-- that the step leads to. It leaves the world as it was.
pub record RefusedBeside (beside : World → Refusal → Type 0) (old planned new : World)
    (reply : Pairs) : Type 0 where
  pub refusal : Refusal
  pub cause : beside planned refusal
  pub same : new ≡ old
  pub says : reply ≡ refusal_reply refusal

-- What may be answered: the definition's step, or a refusal that may come beside it, by its cause.
abbrev pub Answers : (World → Refusal → Type 0) → World → ℕ → Result Pairs BsonFault → World → Pairs
    → Type 0
Answers beside world connection body new reply = let planned = step world connection body in
    ((new, reply) ≡ planned) ⊎ RefusedBeside beside world planned.0 new reply

-- A command that is an update changes no document and makes none, not even to change it back.
abbrev pub ChangesNone : World → Command → Type 0
ChangesNone world (update c) = (u : Updated)
    → run_statements c.namespace 0 c.statements (not_updated world.collections) ≡ Ok u
    → (u.modified ≡ 0) × (u.upserted ≡ no_items)
ChangesNone world other = Unit {0}

abbrev pub BodyChangesNone : World → Result Pairs BsonFault → Type 0
BodyChangesNone world (Ok body) = (c : Command) → command_of body ≡ Ok c → ChangesNone world c
BodyChangesNone world (Err fault) = Unit {0}

-- The command wrote nothing: the collections are as they were, and no update changed one on the way
-- there.
abbrev pub WroteNothing : World → Result Pairs BsonFault → World → Type 0
WroteNothing old body new =
    (new.collections ≡ old.collections) × BodyChangesNone old body
