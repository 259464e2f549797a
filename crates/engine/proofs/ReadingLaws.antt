-- Commands that only read leave the collections as they are.
use Rattle.std.proofs.Common.{◌≡◌, ⊎_elim, ℕ, ◌+◌, [], ◌∷◌, ◌++◌, Bool, true, false, List, length, drop, Option, Some, None, refl, ap, ◌∙◌}
use Rattle.std.specs.Prelude.{nat_le, if◌then◌else◌, codes, Result, Ok, Err, unwrap_or}
use Rattle.bson.specs.Tree.{Pairs}
use Rattle.bson_bytes.specs.declared.fault.BsonFault.{BsonFault}
use Rattle.outcome.specs.Outcome.{◌>>=◌, unless, or_refused}
use Rattle.path.specs.declared.refusal.Refusal.{Refusal}
use Rattle.path.specs.declared.refusal.Refusal.TheVariants as refusals
use Rattle.command_model.specs.Find.{Find}
use Rattle.command_model.specs.Count.{Count}
use Rattle.command_model.specs.Aggregate.{Aggregate}
use Rattle.aggregate_model.specs.Pipeline.{run as after_pipeline}
use Rattle.database_model.specs.Aggregate.{run_aggregate}
use Rattle.command_model.specs.ListCollections.{ListCollections}
use Rattle.command_model.specs.ListIndexes.{ListIndexes}
use Rattle.database_model.specs.ListIndexes.{indexes_reply, run_list_indexes}
use Rattle.command_model.specs.Explain.{Explain}
use Rattle.database_model.specs.Explain.{run_explain}
use Rattle.database_model.specs.ListCollections.{run_list_collections}
use Rattle.command_model.specs.Command.{Command, ping, insert, find, count, delete}
use Rattle.command_model.specs.Command.{update, aggregate, create, drop as drop_of, list_collections, create_indexes}
use Rattle.command_model.specs.Command.{drop_indexes, list_indexes, explain, command_of, get_more, kill_cursors, hello}
use Rattle.entry_model.specs.State.{Collection, find_collection}
use Rattle.database_model.specs.World.{World, documents_of}
use Rattle.database_model.specs.Cursors.{batch_of, batch_reply, open_cursor, is_refused, new_cursor, first_batch, is_cursor}
use Rattle.command_model.specs.GetMore.{GetMore}
use Rattle.command_model.specs.KillCursors.{KillCursors}
use Rattle.database_model.specs.GetMore.{next_batch, run_get_more}
use Rattle.database_model.specs.KillCursors.{run_kill_cursors}
use Rattle.std.specs.List.{position}
use Rattle.database_model.specs.Find.{query_result, run_find}
use Rattle.database_model.specs.Count.{run_count}
use Rattle.database_model.specs.Step.{run, answered, step, Answers}
use Rattle.engine.specs.Laws.{OnlyReads, BodyOnlyReads}

module _ (w : World) (connection : ℕ) where
  -- what running a command comes to leaves the collections
  abbrev Leaves : Result (World × Pairs) Refusal → Type 0
  Leaves r = (answered w r).0.collections ≡ w.collections

  counted : (c : Count) → Leaves (run_count w c)
  unfolding run_count
  counted c = refl

  abbrev after_opening : List ℕ → List Pairs → ℕ → Result World Refusal → Result (World × Pairs) Refusal
  after_opening name ds n r = r >>= (λ after. Ok (after, batch_reply (codes "firstBatch") n ds w.next name))

  opened : (b : Bool) (name : List ℕ) (ds rest : List Pairs) (n : ℕ)
      → Leaves (after_opening name ds n
      (unless b refusals.TooMany (Ok (record w { cursors = w.cursors ++ new_cursor w.next connection name rest ∷ []; next = w.next + 1 }))))
  opened true name ds rest n = refl
  opened false name ds rest n = refl

  batched : (name : List ℕ) (ds : List Pairs) (n : ℕ) → Leaves (first_batch w connection name ds n)
  batched name ds n = at (nat_le (length ds) n)
    where
      at : (b : Bool) → Leaves (after_opening name ds n (if b then Ok w else open_cursor w connection name (drop n ds)))
      at true = refl
      at false = opened (is_refused connection w.cursors w.next) name ds (drop n ds) n

  given : (c : GetMore) → Leaves (run_get_more w connection c)
  unfolding run_get_more
  given c = at (position (is_cursor connection c.namespace c.id) w.cursors)
    where
      at : (o : Option ℕ) → Leaves (or_refused o refusals.CursorNotFound >>= (λ place. let x : Result (World × Pairs) Refusal = Ok (next_batch w c place) in x))
      at None = refl
      at (Some place) = refl

  killed : (c : KillCursors) → Leaves (run_kill_cursors w connection c)
  unfolding run_kill_cursors
  killed c = refl

  found : (c : Find) → Leaves (run_find w connection c)
  unfolding run_find
  found c =
      let ds = query_result c.query (documents_of w.collections c.namespace) in
      batched c.namespace ds (batch_of (unwrap_or c.batch_size 101) ds)

  aggregated : (c : Aggregate) → Leaves (run_aggregate w connection c)
  unfolding run_aggregate
  aggregated c = at (after_pipeline c.pipeline 65535 (documents_of w.collections c.namespace))
    where
      at : (r : Result (List Pairs) Refusal) → Leaves (r >>= (λ ds. first_batch w connection c.namespace ds (batch_of (unwrap_or c.batch_size 101) ds)))
      at (Ok ds) = batched c.namespace ds (batch_of (unwrap_or c.batch_size 101) ds)
      at (Err e) = refl

  listed_so : (c : ListCollections) → Leaves (run_list_collections w c)
  unfolding run_list_collections
  listed_so c = refl

  indexes_listed : (c : ListIndexes) → Leaves (run_list_indexes w c)
  unfolding run_list_indexes
  indexes_listed c = at (find_collection w.collections c.namespace)
    where
      at : (o : Option Collection)
          → Leaves (or_refused o refusals.NamespaceNotFound >>=
          (λ found. let x : Result (World × Pairs) Refusal = Ok (w, indexes_reply c.namespace found.indexes) in x))
      at None = refl
      at (Some found) = refl

  explained : (c : Explain) → Leaves (run_explain w c)
  unfolding run_explain
  explained c = refl

  ran : (r : Result Command Refusal) → OnlyReads r → Leaves (r >>= run w connection)
  ran (Err e) h = refl
  ran (Ok ping) h = refl
  ran (Ok hello) h = refl
  ran (Ok (insert c)) h = absurd h
  ran (Ok (delete c)) h = absurd h
  ran (Ok (update c)) h = absurd h
  ran (Ok (create c)) h = absurd h
  ran (Ok (drop_of c)) h = absurd h
  ran (Ok (list_collections c)) h = listed_so c
  ran (Ok (create_indexes c)) h = absurd h
  ran (Ok (drop_indexes c)) h = absurd h
  ran (Ok (list_indexes c)) h = indexes_listed c
  ran (Ok (explain c)) h = explained c
  ran (Ok (count c)) h = counted c
  ran (Ok (find c)) h = found c
  ran (Ok (get_more c)) h = given c
  ran (Ok (kill_cursors c)) h = killed c
  ran (Ok (aggregate c)) h = aggregated c

  stepped : (body : Result Pairs BsonFault) → BodyOnlyReads body → (step w connection body).0.collections ≡ w.collections
  stepped (Ok body) h = ran (command_of body) h
  stepped (Err fault) h = refl

pub reads_same : (beside : World → Refusal → Type 0) (w new : World) (connection : ℕ) (body : Result Pairs BsonFault) (reply : Pairs) → BodyOnlyReads body
    → Answers beside w connection body new reply → new.collections ≡ w.collections
reads_same beside w new connection body reply h answers = ⊎_elim
    (λ stepped_so. ap (λ (x : World × Pairs). x.0.collections) stepped_so ∙ stepped w connection body h)
    (λ refused. ap (λ (x : World). x.collections) refused.same)
    answers
