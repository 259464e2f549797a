-- What an undone turn leaves of cursors.
use Rattle.std.proofs.Common.{◌≡◌, ◌⊎◌, ⊎_elim, inl, inr, ℕ, zero, suc, ◌+◌, Bool, true, false, List, [], ◌∷◌, ◌++◌, length, set, remove, drop, Option, Some}
use Rattle.std.proofs.Common.{None, Result, Ok, Err, refl, sym, ap, subst, ◌∙◌}
use Rattle.std.specs.Prelude.{◌==◌, ◌&&◌, not, is_some, nat_le, if◌then◌else◌, codes, unwrap_or}
use Rattle.std.specs.List.{filter, position}
use Rattle.bson.specs.Tree.{Pairs, pair, no_pairs}
use Rattle.bson_bytes.specs.declared.fault.BsonFault.{BsonFault}
use Rattle.outcome.specs.Outcome.{◌>>=◌, unless, or_refused}
use Rattle.path.specs.declared.refusal.Refusal.{Refusal}
use Rattle.path.specs.declared.refusal.Refusal.TheVariants as refusals
use Rattle.command_model.specs.Insert.{Insert}
use Rattle.command_model.specs.Find.{Find}
use Rattle.command_model.specs.GetMore.{GetMore}
use Rattle.command_model.specs.KillCursors.{KillCursors}
use Rattle.command_model.specs.Count.{Count}
use Rattle.command_model.specs.Delete.{Delete}
use Rattle.command_model.specs.Update.{Update}
use Rattle.command_model.specs.Aggregate.{Aggregate}
use Rattle.command_model.specs.Create.{Create}
use Rattle.command_model.specs.DropCollection.{DropCollection}
use Rattle.command_model.specs.ListCollections.{ListCollections}
use Rattle.command_model.specs.ListIndexes.{ListIndexes}
use Rattle.database_model.specs.ListIndexes.{indexes_reply, run_list_indexes}
use Rattle.command_model.specs.Explain.{Explain}
use Rattle.database_model.specs.Explain.{run_explain}
use Rattle.database_model.specs.Create.{created, run_create}
use Rattle.command_model.specs.CreateIndexes.{CreateIndexes}
use Rattle.database_model.specs.CreateIndexes.{create_indexes_reply, indexed, run_create_indexes}
use Rattle.command_model.specs.DropIndexes.{DropIndexes}
use Rattle.database_model.specs.DropIndexes.{drop_indexes_reply, index_dropped, run_drop_indexes}
use Rattle.database_model.specs.DropCollection.{drop_reply, dropped, index_count, run_drop}
use Rattle.database_model.specs.ListCollections.{run_list_collections}
use Rattle.command_model.specs.Command.{Command, ping, hello, insert, find, get_more, kill_cursors, count, delete, update, aggregate, create, drop as drop_of}
use Rattle.command_model.specs.Command.{list_collections, create_indexes, drop_indexes, list_indexes, explain, command_of}
use Rattle.aggregate_model.specs.Pipeline.{run as after_pipeline}
use Rattle.database_model.specs.World.{collection_of, World, Cursor, documents_of, with_documents, untouched, are_untouched}
use Rattle.entry_model.specs.State.{Collection, find_collection, put_collection}
use Rattle.database_model.specs.Documents.{insert_all}
use Rattle.database_model.specs.Refusals.{int}
use Rattle.database_model.specs.Insert.{is_full}
use Rattle.database_model.specs.Cursors.{batch_of, batch_reply, is_refused, new_cursor, first_batch, is_cursor, cursor_at}
use Rattle.database_model.specs.GetMore.{batch_len_of, next_batch, run_get_more}
use Rattle.database_model.specs.KillCursors.{is_asked, run_kill_cursors}
use Rattle.database_model.specs.Insert.{run_insert}
use Rattle.database_model.specs.Find.{query_result, run_find}
use Rattle.database_model.specs.Count.{run_count}
use Rattle.database_model.specs.Delete.{run_delete}
use Rattle.database_model.specs.Update.{Updated, update_reply, run_all}
use Rattle.database_model.specs.UpdateCommand.{entered_in, run_update, writes_in}
use Rattle.database_model.specs.Aggregate.{run_aggregate}
use Rattle.database_model.specs.Step.{run, answered, step}
use Rattle.database_model.specs.CursorLaws.{IsAmong, after_commands, StaysOpen}
use Rattle.database_model.specs.CursorLife.{HasLeft}

-- ---- cursors of a list

among_all : (p : Cursor → Bool) (c : Cursor) (cs : List Cursor) → IsAmong c (filter p cs) → IsAmong c cs
among_all p c [] h = h
among_all p c (d ∷ ds) h = at (p d) refl h (λ later. among_all p c ds later)
  where
    at : (b : Bool) → p d ≡ b → IsAmong c (if b then d ∷ filter p ds else filter p ds) → (IsAmong c (filter p ds) → IsAmong c ds) → IsAmong c (d ∷ ds)
    at true e h later = ⊎_elim (λ same. inl same) (λ more. inr (later more)) h
    at false e h later = inr (later h)

among_kept : (p : Cursor → Bool) (c : Cursor) (cs : List Cursor) → p c ≡ true → IsAmong c cs → IsAmong c (filter p cs)
among_kept p c [] e h = h
among_kept p c (d ∷ ds) e h = at (p d) refl (among_kept p c ds e) h
  where
    at : (b : Bool) → p d ≡ b → (IsAmong c ds → IsAmong c (filter p ds)) → IsAmong c (d ∷ ds) → IsAmong c (if b then d ∷ filter p ds else filter p ds)
    at true f later h = ⊎_elim (λ same. inl same) (λ more. inr (later more)) h
    at false f later h = ⊎_elim (λ same. let wrong : true ≡ false = sym e ∙ ap p (sym same) ∙ f in absurd cc) (λ more. later more) h

passes : (p : Cursor → Bool) (c : Cursor) (cs : List Cursor) → IsAmong c (filter p cs) → p c ≡ true
passes p c [] h = absurd h
passes p c (d ∷ ds) h = at (p d) refl (passes p c ds) h
  where
    at : (b : Bool) → p d ≡ b → (IsAmong c (filter p ds) → p c ≡ true) → IsAmong c (if b then d ∷ filter p ds else filter p ds) → p c ≡ true
    at true f later h = ⊎_elim (λ same. ap p (sym same) ∙ f) (λ more. later more) h
    at false f later h = later h

among_one_more : (c d : Cursor) (cs : List Cursor) → IsAmong c (cs ++ d ∷ []) → IsAmong c cs ⊎ (d ≡ c)
among_one_more c d [] h = ⊎_elim (λ same. inr same) (λ none. absurd none) h
among_one_more c d (e ∷ es) h = ⊎_elim (λ same. inl (inl same)) (λ more. ⊎_elim (λ there. inl (inr there)) (λ same. inr same) (among_one_more c d es more)) h

among_removed : (c : Cursor) (cs : List Cursor) (i : ℕ) → IsAmong c (remove cs i) → IsAmong c cs
among_removed c [] zero h = h
among_removed c [] (suc i) h = h
among_removed c (d ∷ ds) zero h = inr h
among_removed c (d ∷ ds) (suc i) h = ⊎_elim (λ same. inl same) (λ more. inr (among_removed c ds i more)) h

among_set : (c e : Cursor) (cs : List Cursor) (i : ℕ) → IsAmong c (set cs i e) → IsAmong c cs ⊎ (e ≡ c)
among_set c e [] i h = inl h
among_set c e (d ∷ ds) zero h = ⊎_elim (λ same. inr same) (λ more. inl (inr more)) h
among_set c e (d ∷ ds) (suc i) h = ⊎_elim (λ same. inl (inl same)) (λ more. ⊎_elim (λ there. inl (inr there)) (λ same. inr same) (among_set c e ds i more)) h

-- ---- one command

not_touched : (c d : Cursor) → c.touched ≡ false → d.touched ≡ true → d ≡ c → ⊥
not_touched c d clean touched same = let wrong : true ≡ false = sym touched ∙ ap (λ (x : Cursor). x.touched) same ∙ clean in absurd cc

module _ (w : World) (connection : ℕ) where
  -- a cursor that the turn hasn't touched was open before the command
  abbrev Comes : Result (World × Pairs) Refusal → Type 0
  Comes r = (c : Cursor) → c.touched ≡ false → IsAmong c (answered w r).0.cursors → IsAmong c w.cursors

  inserted : (c : Insert) → Comes (run_insert w c)
  unfolding run_insert
  inserted c = at (is_full w.collections c.namespace) (insert_all (collection_of w.collections c.namespace) c.documents)
    where
      at : (full : Bool) (r : Result Collection Refusal)
          → Comes (unless full refusals.TooMany
          (r >>= (λ next. let x : Result (World × Pairs) Refusal =
          Ok (record w { collections = put_collection next w.collections }, pair (codes "n") (int (length c.documents)) no_pairs) in x)))
      at true r d clean h = h
      at false (Ok next) d clean h = h
      at false (Err e) d clean h = h

  counted : (c : Count) → Comes (run_count w c)
  unfolding run_count
  counted c d clean h = h

  deleted : (c : Delete) → Comes (run_delete w c)
  unfolding run_delete
  deleted c d clean h = h

  updated : (c : Update) → Comes (run_update w c)
  unfolding run_update
  updated c = at (entered_in c.namespace (writes_in c.namespace c.statements w.collections) w.collections) (run_all c.namespace c.statements w.collections)
    where
      at : (r : Result (List Collection) Refusal) (q : Result Updated Refusal)
          → Comes (r >>= (λ next. q >>= (λ u. let x : Result (World × Pairs) Refusal = Ok (record w { collections = next }, update_reply u) in x)))
      at (Ok next) (Ok u) d clean h = h
      at (Ok next) (Err e) d clean h = h
      at (Err e) q d clean h = h

  batched : (name : List ℕ) (ds : List Pairs) (n : ℕ) → Comes (first_batch w connection name ds n)
  batched name ds n = at (nat_le (length ds) n) (is_refused connection w.cursors w.next)
    where
      at : (whole refused : Bool)
          → Comes ((if whole then Ok w
          else unless refused refusals.TooMany (Ok (record w { cursors = w.cursors ++ new_cursor w.next connection name (drop n ds) ∷ []; next = w.next + 1 })))
          >>= (λ after. let x : Result (World × Pairs) Refusal = Ok (after, batch_reply (codes "firstBatch") n ds w.next name) in x))
      at true refused d clean h = h
      at false true d clean h = h
      at false false d clean h =
          ⊎_elim (λ there. there) (λ same. absurd (not_touched d (new_cursor w.next connection name (drop n ds)) clean refl same))
          (among_one_more d (new_cursor w.next connection name (drop n ds)) w.cursors h)

  found : (c : Find) → Comes (run_find w connection c)
  unfolding run_find
  found c =
      let ds = query_result c.query (documents_of w.collections c.namespace) in
      batched c.namespace ds (batch_of (unwrap_or c.batch_size 101) ds)

  aggregated : (c : Aggregate) → Comes (run_aggregate w connection c)
  unfolding run_aggregate
  aggregated c = at (after_pipeline c.pipeline 65535 (documents_of w.collections c.namespace))
    where
      at : (r : Result (List Pairs) Refusal) → Comes (r >>= (λ ds. first_batch w connection c.namespace ds (batch_of (unwrap_or c.batch_size 101) ds)))
      at (Ok ds) d clean h = batched c.namespace ds (batch_of (unwrap_or c.batch_size 101) ds) d clean h
      at (Err e) d clean h = h

  given : (c : GetMore) → Comes (run_get_more w connection c)
  unfolding run_get_more
  given c = at (position (is_cursor connection c.namespace c.id) w.cursors)
    where
      ended : (place : ℕ) (b : Bool) (d : Cursor) → d.touched ≡ false
          → IsAmong d (if b then remove w.cursors place
          else set w.cursors place
          (record (cursor_at w.cursors place)
          { rest = drop (batch_len_of (cursor_at w.cursors place) c.batch_size) (cursor_at w.cursors place).rest; touched = true })) → IsAmong d w.cursors
      ended place true d clean h = among_removed d w.cursors place h
      ended place false d clean h =
          let moved : Cursor =
          record (cursor_at w.cursors place)
          { rest = drop (batch_len_of (cursor_at w.cursors place) c.batch_size) (cursor_at w.cursors place).rest; touched = true } in
          ⊎_elim (λ there. there) (λ same. absurd (not_touched d moved clean refl same)) (among_set d moved w.cursors place h)

      at : (o : Option ℕ) → Comes (or_refused o refusals.CursorNotFound >>= (λ place. let x : Result (World × Pairs) Refusal = Ok (next_batch w c place) in x))
      at None d clean h = h
      at (Some place) d clean h =
          ended place (nat_le (length (cursor_at w.cursors place).rest) (batch_len_of (cursor_at w.cursors place) c.batch_size)) d clean h

  killed : (c : KillCursors) → Comes (run_kill_cursors w connection c)
  unfolding run_kill_cursors
  killed c d clean h = among_all (λ cursor. not (is_asked connection c.namespace c.cursors cursor)) d w.cursors h

  made : (c : Create) → Comes (run_create w c)
  unfolding run_create
  made c = at (created w.collections c.namespace)
    where
      at : (r : Result (List Collection) Refusal)
          → Comes (r >>= (λ cs. let x : Result (World × Pairs) Refusal = Ok (record w { collections = cs }, no_pairs) in x))
      at (Err e) d clean h = h
      at (Ok cs) d clean h = h

  indexed_so : (c : CreateIndexes) → Comes (run_create_indexes w c)
  unfolding run_create_indexes
  indexed_so c = at (indexed w.collections c.namespace c.indexes)
    where
      is_new : Bool
      is_new = not (is_some (find_collection w.collections c.namespace))

      at : (r : Result (List Collection) Refusal)
          → Comes (r >>= (λ cs. let x : Result (World × Pairs) Refusal =
          Ok (record w { collections = cs }, create_indexes_reply (index_count w.collections c.namespace) (index_count cs c.namespace) is_new) in x))
      at (Err e) d clean h = h
      at (Ok cs) d clean h = h

  unindexed_so : (c : DropIndexes) → Comes (run_drop_indexes w c)
  unfolding run_drop_indexes
  unindexed_so c = at (index_dropped w.collections c.namespace c.indexes)
    where
      at : (r : Result (List Collection) Refusal)
          → Comes (r >>=
          (λ cs. let x : Result (World × Pairs) Refusal = Ok (record w { collections = cs }, drop_indexes_reply (index_count w.collections c.namespace)) in x))
      at (Err e) d clean h = h
      at (Ok cs) d clean h = h

  dropped_so : (c : DropCollection) → Comes (run_drop w c)
  unfolding run_drop
  dropped_so c = at (dropped w.collections c.namespace)
    where
      at : (r : Result (List Collection) Refusal)
          → Comes (r >>=
          (λ cs. let x : Result (World × Pairs) Refusal = Ok (record w { collections = cs }, drop_reply (index_count w.collections c.namespace) c.namespace) in
          x))
      at (Err e) d clean h = h
      at (Ok cs) d clean h = h

  listed_so : (c : ListCollections) → Comes (run_list_collections w c)
  unfolding run_list_collections
  listed_so c d clean h = h

  indexes_listed : (c : ListIndexes) → Comes (run_list_indexes w c)
  unfolding run_list_indexes
  indexes_listed c = at (find_collection w.collections c.namespace)
    where
      at : (o : Option Collection)
          → Comes (or_refused o refusals.NamespaceNotFound >>=
          (λ found. let x : Result (World × Pairs) Refusal = Ok (w, indexes_reply c.namespace found.indexes) in x))
      at None d clean h = h
      at (Some found) d clean h = h

  explained : (c : Explain) → Comes (run_explain w c)
  unfolding run_explain
  explained c d clean h = h

  ran : (r : Result Command Refusal) → Comes (r >>= run w connection)
  ran (Err e) d clean h = h
  ran (Ok ping) d clean h = h
  ran (Ok hello) d clean h = h
  ran (Ok (insert c)) d clean h = inserted c d clean h
  ran (Ok (find c)) d clean h = found c d clean h
  ran (Ok (get_more c)) d clean h = given c d clean h
  ran (Ok (kill_cursors c)) d clean h = killed c d clean h
  ran (Ok (count c)) d clean h = counted c d clean h
  ran (Ok (delete c)) d clean h = deleted c d clean h
  ran (Ok (update c)) d clean h = updated c d clean h
  ran (Ok (aggregate c)) d clean h = aggregated c d clean h
  ran (Ok (create c)) d clean h = made c d clean h
  ran (Ok (drop_of c)) d clean h = dropped_so c d clean h
  ran (Ok (list_collections c)) d clean h = listed_so c d clean h
  ran (Ok (create_indexes c)) d clean h = indexed_so c d clean h
  ran (Ok (drop_indexes c)) d clean h = unindexed_so c d clean h
  ran (Ok (list_indexes c)) d clean h = indexes_listed c d clean h
  ran (Ok (explain c)) d clean h = explained c d clean h

  came : (body : Result Pairs BsonFault) (c : Cursor) → c.touched ≡ false → IsAmong c (step w connection body).0.cursors → IsAmong c w.cursors
  came (Ok body) c clean h = ran (command_of body) c clean h
  came (Err fault) c clean h = h

-- ---- a turn

first_of : (c : Cursor) (w : World) (xs : List (ℕ × Result Pairs BsonFault)) → StaysOpen c w xs → IsAmong c w.cursors
first_of c w [] h = h
first_of c w (x ∷ xs) h = h.0

pub stayed : (c : Cursor) (w : World) (xs : List (ℕ × Result Pairs BsonFault)) → c.touched ≡ false → IsAmong c (after_commands w xs).cursors → StaysOpen c w xs
stayed c w [] clean h = h
stayed c w (x ∷ xs) clean h =
    let later = stayed c (step w x.0 x.1).0 xs clean h in
    (came w x.0 x.1 c clean (first_of c (step w x.0 x.1).0 xs later), later)

pub last_of : (c : Cursor) (w : World) (xs : List (ℕ × Result Pairs BsonFault)) → StaysOpen c w xs → IsAmong c (after_commands w xs).cursors
last_of c w [] h = h
last_of c w (x ∷ xs) h = last_of c (step w x.0 x.1).0 xs h.1

rests_among : (c : Cursor) (cs : List Cursor) → are_untouched cs ≡ true → IsAmong c cs → not c.touched ≡ true
rests_among c [] e h = absurd h
rests_among c (d ∷ ds) e h = at (not d.touched) refl e h (rests_among c ds)
  where
    at : (b : Bool) → not d.touched ≡ b → (b && are_untouched ds) ≡ true → IsAmong c (d ∷ ds) → (are_untouched ds ≡ true → IsAmong c ds → not c.touched ≡ true)
        → not c.touched ≡ true
    at true r e h later = ⊎_elim (λ same. ap (λ (x : Cursor). not x.touched) (sym same) ∙ r) (λ more. later e more) h
    at false r e h later = absurd cc

is_false : (b : Bool) → not b ≡ true → b ≡ false
is_false true e = absurd cc
is_false false e = refl

pub left_open : (c : Cursor) (w : World) (xs : List (ℕ × Result Pairs BsonFault)) → IsAmong c (untouched (after_commands w xs).cursors) → StaysOpen c w xs
left_open c w xs h =
    let p : Cursor → Bool = λ x. not x.touched in
    stayed c w xs (is_false c.touched (passes p c (after_commands w xs).cursors h)) (among_all p c (after_commands w xs).cursors h)

pub open_left : (c : Cursor) (w : World) (xs : List (ℕ × Result Pairs BsonFault)) → are_untouched w.cursors ≡ true → StaysOpen c w xs
    → IsAmong c (untouched (after_commands w xs).cursors)
open_left c w xs clean h =
    among_kept (λ x. not x.touched) c (after_commands w xs).cursors (rests_among c w.cursors clean (first_of c w xs h)) (last_of c w xs h)

-- A cursor that a turn leaves where it is undone has what it had before the turn.
pub kept_by_undo : (k : ℕ) (w : World) (xs : List (ℕ × Result Pairs BsonFault)) (had left : List Pairs) → HasLeft k w.cursors had
    → HasLeft k (untouched (after_commands w xs).cursors) left → HasLeft k (untouched (after_commands w xs).cursors) had
kept_by_undo k w xs had left before (inl none) = inl none
kept_by_undo k w xs had left before (inr (c, only, rest)) =
    let after = untouched (after_commands w xs).cursors in
    let there : IsAmong c (filter (λ (x : Cursor). x.number == k) after) = subst (λ (ds : List Cursor). IsAmong c ds) (sym only) (inl refl) in
    let was = first_of c w xs (left_open c w xs (among_all (λ (x : Cursor). x.number == k) c after there)) in
    by before (among_kept (λ (x : Cursor). x.number == k) c w.cursors (passes (λ (x : Cursor). x.number == k) c after there) was)
  where
    by : HasLeft k w.cursors had → IsAmong c (filter (λ (x : Cursor). x.number == k) w.cursors) → HasLeft k (untouched (after_commands w xs).cursors) had
    by (inl none) mine = absurd (subst (λ (ds : List Cursor). IsAmong c ds) none mine)
    by (inr (d, one, has)) mine =
        ⊎_elim (λ same. inr (c, only, ap (λ (x : Cursor). x.rest) (sym same) ∙ has)) (λ more. absurd more) (subst (λ (ds : List Cursor). IsAmong c ds) one mine)
