-- What running a command comes to.
use Rattle.std.proofs.Common.{◌≡◌, inl, inr, ℕ, ◌+◌, ◌-◌, ◌<◌, ◌≤◌, Bool, true, false, List, [], ◌∷◌, ◌++◌, length, take, drop, Option, Some, None, Result, Ok}
use Rattle.std.proofs.Common.{Err, refl, sym, ap, ◌∙◌, arith}
use Rattle.std.specs.Prelude.{not, nat_le, if◌then◌else◌, codes, unwrap_or, IfOk, IfErr}
use Rattle.std.proofs.lemmas.Bool.Decides.{nat_tests}
use Rattle.bson.specs.Tree.{Pairs, pair, no_pairs}
use Rattle.command_model.specs.Insert.{Insert}
use Rattle.command_model.specs.Find.{Query, Find}
use Rattle.command_model.specs.Count.{Count}
use Rattle.command_model.specs.Aggregate.{Aggregate}
use Rattle.aggregate_model.specs.Stage.{Stage}
use Rattle.aggregate_model.specs.Pipeline.{run as after_pipeline}
use Rattle.database_model.specs.Aggregate.{run_aggregate}
use Rattle.database_model.specs.Find.{query_result, matching, window, run_find}
use Rattle.command_model.specs.Delete.{Delete}
use Rattle.replies.specs.FirstBatch.{IsFirstBatch, IsNoBatch}
use Rattle.replies.specs.View.{with_ok}
use Rattle.database_model.specs.Delete.{after_deletions, deleted_in, run_delete}
use Rattle.database_model.specs.World.{World, Cursor, CursorTable, collection_of, documents_of}
use Rattle.entry_model.specs.State.{Collection, find_collection, put_collection}
use Rattle.outcome.specs.Outcome.{◌>>=◌, Fails, unless, or_refused}
use Rattle.std.specs.List.{filter, position}
use Rattle.database_model.specs.Documents.{insert_all}
use Rattle.database_model.specs.Refusals.{int, total, ok_reply}
use Rattle.database_model.specs.Cursors.{cursor_reply, is_refused, new_cursor, open_cursor, batch_of, batch_reply, first_batch, is_cursor}
use Rattle.database_model.specs.GetMore.{next_batch, run_get_more}
use Rattle.database_model.specs.KillCursors.{ToldApart, no_ids, told_apart, has_cursor, is_asked, kill_reply, run_kill_cursors}
use Rattle.command_model.specs.GetMore.{GetMore}
use Rattle.command_model.specs.KillCursors.{KillCursors}
use Rattle.database_model.specs.Insert.{run_insert}
use Rattle.database_model.specs.Count.{run_count}
use Rattle.database_model.specs.Insert.{is_full, inserted}
use Rattle.path.specs.declared.refusal.Refusal.{Refusal}
use Rattle.path.specs.declared.refusal.Refusal.TheVariants as refusals

-- ---- insert

module _ (w : World) (name : List ℕ) (ds : List Pairs) where
  abbrev asked : Insert
  asked = record { namespace = name; documents = ds }

  abbrev put : Collection → List Collection
  put next = put_collection next w.collections

  abbrev made : Result Collection Refusal → Result (List Collection) Refusal
  made r = r >>= (λ next. Ok (put next))

  abbrev said : List Collection → World × Pairs
  said cs = (record w { collections = cs }, pair (codes "n") (int (length ds)) no_pairs)

  abbrev answered : Result Collection Refusal → Result (World × Pairs) Refusal
  answered r = r >>= (λ next. let x : Result (World × Pairs) Refusal = Ok (said (put next)) in x)

  done_so : (full : Bool) (r : Result Collection Refusal) (cs : List Collection) → unless full refusals.TooMany (made r) ≡ Ok cs
      → unless full refusals.TooMany (answered r) ≡ Ok (said cs)
  done_so true r cs e = absurd cc
  done_so false (Err f) cs e = absurd cc
  done_so false (Ok next) cs e = let same : put next ≡ cs = cc in ap (λ (x : List Collection). Ok (said x)) same

  refused_so : (full : Bool) (r : Result Collection Refusal) (e : Refusal) → unless full refusals.TooMany (made r) ≡ Err e
      → unless full refusals.TooMany (answered r) ≡ Err e
  refused_so true r e h = let same : refusals.TooMany ≡ e = cc in ap (λ (x : Refusal). Err x) same
  refused_so false (Err f) e h = let same : f ≡ e = cc in ap (λ (x : Refusal). Err x) same
  refused_so false (Ok next) e h = absurd cc

  pub run_insert-done : (cs : List Collection) → inserted w.collections name ds ≡ Ok cs → run_insert w asked ≡ Ok (said cs)
  unfolding run_insert
  run_insert-done cs e = done_so (is_full w.collections name) (insert_all (collection_of w.collections name) ds) cs e

  pub run_insert-refused : (e : Refusal) → inserted w.collections name ds ≡ Err e → run_insert w asked ≡ Err e
  unfolding run_insert
  run_insert-refused e h = refused_so (is_full w.collections name) (insert_all (collection_of w.collections name) ds) e h

-- ---- find and aggregate

-- a first batch of so many documents, and what it does to cursors
module _ (w : World) (connection : ℕ) (name : List ℕ) (documents : List Pairs) (n : ℕ) where
  abbrev said_with : ℕ → Pairs
  said_with number = batch_reply (codes "firstBatch") n documents number name

  pub whole_batch : (number : ℕ) (reply : Pairs) → length documents ≤ n → reply ≡ ok_reply (said_with number)
      → with_ok (first_batch w connection name documents n) ≡ Ok (w, reply)
  whole_batch number reply fits is = at (nat_le (length documents) n) (grind (arith, nat_tests)) is
    where
      at : (b : Bool) → b ≡ true → reply ≡ ok_reply (cursor_reply (codes "firstBatch") (take n documents) (if b then 0 else number) name)
          → with_ok ((if b then Ok w else open_cursor w connection name (drop n documents)) >>=
          (λ after. let x : Result (World × Pairs) Refusal = Ok (after, cursor_reply (codes "firstBatch") (take n documents) (if b then 0 else w.next) name) in
          x)) ≡ Ok (w, reply)
      at true e is = ap (λ (r : Pairs). let x : Result (World × Pairs) Refusal = Ok (w, r) in x) (sym is)
      at false e is = absurd cc

  abbrev pub with_cursor : World
  with_cursor = record w {
    cursors = w.cursors ++ new_cursor w.next connection name (drop n documents) ∷ [];
    next = w.next + 1;
  }

  opened : is_refused connection w.cursors w.next ≡ false → open_cursor w connection name (drop n documents) ≡ Ok with_cursor
  opened free = ap (λ (b : Bool). unless b refusals.TooMany (let x : Result World Refusal = Ok with_cursor in x)) free

  not_opened : is_refused connection w.cursors w.next ≡ true → open_cursor w connection name (drop n documents) ≡ Err refusals.TooMany
  not_opened full = ap (λ (b : Bool). unless b refusals.TooMany (let x : Result World Refusal = Ok with_cursor in x)) full

  abbrev after_opening : Result World Refusal → Result (World × Pairs) Refusal
  after_opening r = r >>= (λ after. Ok (after, said_with w.next))

  left : n < length documents → first_batch w connection name documents n ≡ after_opening (open_cursor w connection name (drop n documents))
  left over =
      let part : nat_le (length documents) n ≡ false = grind (arith, nat_tests) in
      ap (λ (b : Bool). after_opening (if b then Ok w else open_cursor w connection name (drop n documents))) part

  pub opened_batch : (number : ℕ) (reply : Pairs) (new : World) → n < length documents → number ≡ w.next → is_refused connection w.cursors w.next ≡ false
      → new ≡ with_cursor → reply ≡ ok_reply (said_with number)
      → with_ok (first_batch w connection name documents n) ≡ Ok (new, reply)
  opened_batch number reply new over same free made is =
      ap with_ok (left over ∙ ap after_opening (opened free))
      ∙ (λ i. let x : Result (World × Pairs) Refusal = Ok (sym made i, (ap (λ (k : ℕ). ok_reply (said_with k)) (sym same) ∙ sym is) i) in x)

  pub refused_batch : n < length documents → is_refused connection w.cursors w.next ≡ true → first_batch w connection name documents n ≡ Err refusals.TooMany
  refused_batch over full = left over ∙ ap after_opening (not_opened full)

-- a first batch that was spelled is the definition's
module _ (w : World) (connection : ℕ) (name : List ℕ) (ds : List Pairs) (most : ℕ) where
  abbrev pub table : CursorTable
  table = record { list = w.cursors; next = w.next }

  abbrev planned : Result (World × Pairs) Refusal
  planned = first_batch w connection name ds (batch_of most ds)

  of_count : (n : ℕ) → n ≡ batch_of most ds → planned ≡ first_batch w connection name ds n
  of_count n counted = ap (first_batch w connection name ds) (sym counted)

  pub given_whole : (n : ℕ) (reply : Pairs) → IsFirstBatch table connection name ds most n reply → length ds ≤ n → with_ok planned ≡ Ok (w, reply)
  given_whole n reply h fits = ap with_ok (of_count n h.count) ∙ whole_batch w connection name ds n w.next reply fits h.says

  pub given_opened : (n : ℕ) (reply : Pairs) (new : World) → IsFirstBatch table connection name ds most n reply → n < length ds
      → new ≡ with_cursor w connection name ds n → with_ok planned ≡ Ok (new, reply)
  given_opened n reply new h over made =
      ap with_ok (of_count n h.count) ∙ opened_batch w connection name ds n w.next reply new over refl (h.free over) made h.says

  pub given_none : (e : Refusal) → IsNoBatch table connection ds most e → Fails refusals.OutOfMemory e planned
  given_none e (inl is) other = absurd (other is)
  given_none e (inr (is, over, full)) other =
      refused_batch w connection name ds (batch_of most ds) over full ∙ ap (λ (x : Refusal). let r : Result (World × Pairs) Refusal = Err x in r) (sym is)

module _ (w : World) (connection : ℕ) (name : List ℕ) (query : Query) (most : ℕ) where
  abbrev sought : Find
  sought = record { namespace = name; query = query; batch_size = Some most }

  abbrev documents : List Pairs
  documents = query_result query (documents_of w.collections name)

  pub run_find-is : (gs : List Pairs) → gs ≡ documents → first_batch w connection name gs (batch_of most gs) ≡ run_find w connection sought
  unfolding run_find
  run_find-is gs is = ap (λ (ds : List Pairs). first_batch w connection name ds (batch_of most ds)) is

module _ (w : World) (connection : ℕ) (name : List ℕ) (stages : List Stage) (most : ℕ) where
  abbrev pub asked_of : Aggregate
  asked_of = record { namespace = name; pipeline = stages; batch_size = Some most }

  abbrev piped : Result (List Pairs) Refusal
  piped = after_pipeline stages 65535 (documents_of w.collections name)

  abbrev batched : Result (List Pairs) Refusal → Result (World × Pairs) Refusal
  batched r = r >>= (λ ds. first_batch w connection name ds (batch_of most ds))

  pub run_aggregate-is : (ds : List Pairs) → piped ≡ Ok ds → first_batch w connection name ds (batch_of most ds) ≡ run_aggregate w connection asked_of
  unfolding run_aggregate
  run_aggregate-is ds is = sym (ap batched is)

  pub run_aggregate-refused : (e : Refusal) → piped ≡ Err e → run_aggregate w connection asked_of ≡ Err e
  unfolding run_aggregate
  run_aggregate-refused e is = ap batched is

pub run_aggregate-default : (w : World) (connection : ℕ) (c : Aggregate)
    → run_aggregate w connection (record c { batch_size = Some (unwrap_or c.batch_size 101) }) ≡ run_aggregate w connection c
unfolding run_aggregate
run_aggregate-default w connection c = refl

pub run_find-default : (w : World) (connection : ℕ) (c : Find)
    → run_find w connection (record c { batch_size = Some (unwrap_or c.batch_size 101) }) ≡ run_find w connection c
unfolding run_find
run_find-default w connection c = refl

-- ---- cursors

module _ (w : World) (connection : ℕ) (c : GetMore) where
  abbrev given : Option ℕ → Result (World × Pairs) Refusal
  given o = or_refused o refusals.CursorNotFound >>= (λ at. Ok (next_batch w c at))

  pub run_get_more-none : position (is_cursor connection c.namespace c.id) w.cursors ≡ None → run_get_more w connection c ≡ Err refusals.CursorNotFound
  unfolding run_get_more
  run_get_more-none e = ap given e

  pub run_get_more-is : (at : ℕ) → position (is_cursor connection c.namespace c.id) w.cursors ≡ Some at → run_get_more w connection c ≡ Ok (next_batch w c at)
  unfolding run_get_more
  run_get_more-is at e = ap given e

pub run_kill_cursors-is : (w : World) (connection : ℕ) (c : KillCursors) (left : List Cursor) (told : ToldApart)
    → left ≡ filter (λ cursor. not (is_asked connection c.namespace c.cursors cursor)) w.cursors
    → told ≡ told_apart (has_cursor connection c.namespace w.cursors) no_ids c.cursors
    → run_kill_cursors w connection c ≡ Ok (record w { cursors = left }, kill_reply told)
unfolding run_kill_cursors
run_kill_cursors-is w connection c left told is said = λ i. Ok (record w { cursors = sym is i }, kill_reply (sym said i))

-- ---- count and delete

pub run_count-is : (w : World) (c : Count) (n : ℕ) → n ≡ length (window c.skip c.limit (matching c.filter (documents_of w.collections c.namespace)))
    → run_count w c ≡ Ok (w, pair (codes "n") (total n) no_pairs)
unfolding run_count
run_count-is w c n e = ap (λ (m : ℕ). let x : Result (World × Pairs) Refusal = Ok (w, pair (codes "n") (total m) no_pairs) in x) (sym e)

pub run_delete-is : (w : World) (c : Delete) (cs : List Collection) (n : ℕ)
    → cs ≡ deleted_in (find_collection w.collections c.namespace) c.deletions w.collections
    → n ≡ length (documents_of w.collections c.namespace) - length (after_deletions c.deletions (documents_of w.collections c.namespace))
    → run_delete w c ≡ Ok (record w { collections = cs }, pair (codes "n") (total n) no_pairs)
unfolding run_delete
run_delete-is w c cs n same e = λ i. Ok (record w { collections = sym same i }, pair (codes "n") (total (sym e i)) no_pairs)

-- what holds of either answer holds
pub whichever : {X : Type 0} {P : Type 0} (r : Result X Refusal) → IfOk r (λ _. P) → IfErr r (λ _. P) → P
whichever (Ok x) ok err = ok
whichever (Err e) ok err = err
