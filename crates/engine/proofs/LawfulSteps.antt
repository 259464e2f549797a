-- A lawful world steps to a lawful world, and its replies are within their limit.
use Rattle.std.proofs.Common.{◌≡◌, ℕ, suc, max, min, ◌+◌, ◌-◌, ◌<◌, ◌≤◌, Bool, true, false, List, [], ◌∷◌, ◌++◌, length, length-append, map, set}
use Rattle.std.proofs.Common.{take, drop, Option, Some, None, Result, Ok, Err, refl, sym, ap, subst, ◌∙◌, arith, zero, remove, lit≤}
use Rattle.std.specs.Prelude.{◌&&◌, ◌^◌, not, is_some, nat_le, if◌then◌else◌, codes, unwrap_or, nat_lt, All}
use Rattle.std.proofs.lemmas.Bool.Decides.{nat_tests}
use Rattle.std.proofs.lemmas.List.{take_all}
use Rattle.std.proofs.lemmas.List.Elements.{All-cons, All-append, All-drop, All-set, All-filter, All-head, All-tail}
use Rattle.std.proofs.lemmas.List.Quantifiers.{position-Some}
use Rattle.std.specs.List.{filter, position}
use Rattle.bson.specs.Tree.{Pairs, pair, no_pairs}
use Rattle.bson.specs.Spelling.{items_bytes}
use Rattle.bson_bytes.specs.declared.fault.BsonFault.{BsonFault}
use Rattle.database_model.specs.World.{World, Cursor, collection_of, unused, number_or, with_documents, documents_of}
use Rattle.entry_model.specs.State.{Collection, find_collection, put_collection}
use Rattle.outcome.specs.Outcome.{◌>>=◌, unless, or_refused}
use Rattle.database_model.specs.Documents.{place, insert_all}
use Rattle.command_model.specs.Find.{Query}
use Rattle.command_model.specs.Count.{Count}
use Rattle.command_model.specs.Aggregate.{Aggregate}
use Rattle.aggregate_model.specs.Pipeline.{run as after_pipeline}
use Rattle.database_model.specs.Aggregate.{run_aggregate}
use Rattle.engine.proofs.Piping.{piped_within}
use Rattle.database_model.specs.Find.{query_result as found_by, matching, window, run_find}
use Rattle.command_model.specs.Delete.{Deletion}
use Rattle.database_model.specs.Delete.{after_deletions, deleted_in, run_delete}
use Rattle.command_model.specs.Update.{UpdateStatement, Update, IsRead}
use Rattle.database_model.specs.Update.{Updated, not_updated, run_statements, update_reply, judged, run_all, spelled}
use Rattle.database_model.specs.UpdateCommand.{entered_in, run_update, writes_in}
use Rattle.statements.specs.WriteLaws.{documents_in}
use Rattle.entry_model.specs.Entering.{DocumentWrite, enter_each}
use Rattle.statements.proofs.KeptLemmas.{Kept, stored_at}
use Rattle.statements.proofs.WriteLawLemmas.{writes_stored}
use Rattle.command_model.specs.ListCollections.{ListCollections}
use Rattle.database_model.specs.Create.{created, run_create}
use Rattle.command_model.specs.NewIndex.{IsShortNewIndex, NewIndex}
use Rattle.database_model.specs.CreateIndexes.{create_indexes_reply, indexed, run_create_indexes}
use Rattle.command_model.specs.DropIndexes.{DroppedIndexes}
use Rattle.database_model.specs.DropIndexes.{drop_indexes_reply, index_dropped, run_drop_indexes}
use Rattle.database_model.specs.DropCollection.{drop_reply, dropped, index_count, run_drop}
use Rattle.database_model.specs.ListCollections.{names_in, listed, run_list_collections}
use Rattle.database_model.specs.ListIndexes.{indexes_reply, run_list_indexes}
use Rattle.command_model.specs.Explain.{Explain}
use Rattle.plan_model.specs.Explaining.{explain_text}
use Rattle.database_model.specs.Explain.{explain_reply, plan_in, run_explain}
use Rattle.engine.proofs.ExplainingLemmas.{plan_short}
use Rattle.engine.proofs.Creating.{dropped_lawful}
use Rattle.engine.proofs.Listing.{go_into_one}
use Rattle.engine.proofs.ListingIndexes.{indexes-sendable}
use Rattle.database_model.proofs.ShortIndexes.{short_at}
use Rattle.database_model.specs.Refusals.{int, total, ok_reply}
use Rattle.command_model.specs.Command.{Command, ping, insert as insert_of, find as find_of}
use Rattle.command_model.specs.Command.{count as count_of_all, delete, update, aggregate, create as create_of}
use Rattle.command_model.specs.Command.{drop as drop_of, list_collections, create_indexes, drop_indexes, list_indexes, explain, command_of, IsBounded, get_more}
use Rattle.command_model.specs.Command.{kill_cursors, hello}
use Rattle.database_model.specs.Lawful.{IsStored, IsWithin, IsKept, IsLawfulState, IsLawful, AreLawfulCursors}
use Rattle.database_model.specs.Insert.{is_full}
use Rattle.database_model.specs.Cursors.{items_of_documents, batch_of, cursor_reply, number_after, batch_reply, is_refused, new_cursor, open_cursor}
use Rattle.database_model.specs.Cursors.{first_batch, is_cursor, no_cursor, cursor_at}
use Rattle.command_model.specs.GetMore.{GetMore}
use Rattle.command_model.specs.KillCursors.{KillCursors}
use Rattle.database_model.specs.GetMore.{batch_len_of, next_batch, run_get_more}
use Rattle.database_model.specs.KillCursors.{no_ids, told_apart, has_cursor, is_asked, kill_reply, run_kill_cursors}
use Rattle.database_model.specs.Hello.{hello_reply}
use Rattle.database_model.specs.Insert.{run_insert}
use Rattle.database_model.specs.Count.{run_count}
use Rattle.database_model.specs.Step.{run, answered, step}
use Rattle.replies.specs.View.{IsSendable}
use Rattle.path.specs.declared.refusal.Refusal.{Refusal}
use Rattle.path.specs.declared.refusal.Refusal.TheVariants as refusals
use Rattle.command_model.specs.OutcomeLaws.{step_of, passed}
use Rattle.command_model.specs.CommandLaws.{bounded}
use Rattle.statements.proofs.EnteredLemmas.{has_grown, stays_kept}
use Rattle.engine.proofs.Deleting.{deleted_lawful}
use Rattle.engine.proofs.Finding.{found_within}
use Rattle.database_model.proofs.Numbers.{found_kept, number_bounds}
use Rattle.replies.proofs.SpelledSizes.{create_indexes-sendable, drop_indexes-sendable, ping-sendable, insert-sendable, drop-sendable, explain-sendable}
use Rattle.replies.proofs.SpelledSizes.{refusal-sendable, batch_items, cursor-sendable, kill-sendable, told_few, hello-sendable}
use Rattle.engine.proofs.LawfulCollections.{index_dropped_lawful, indexed_lawful, put_kept, room}

-- ---- one command

-- what running a command comes to: a lawful world, and a reply within the limit
abbrev pub Good : Result (World × Pairs) Refusal → Type 0
Good r = (x : World × Pairs) → r ≡ Ok x → IsLawful x.0 × IsSendable (ok_reply x.1)

good_one : (w : World) (reply : Pairs) → IsLawful w → IsSendable (ok_reply reply) → Good (Ok (w, reply))
good_one w reply h s x e = let same : (w, reply) ≡ x = cc in subst (λ (y : World × Pairs). IsLawful y.0 × IsSendable (ok_reply y.1)) same (h, s)

abbrev insert_answer : World → List Pairs → Result Collection Refusal → Result (World × Pairs) Refusal
insert_answer w documents r =
    r >>= (λ next. let x : Result (World × Pairs) Refusal =
    Ok (record w { collections = put_collection next w.collections }, pair (codes "n") (int (length documents)) no_pairs) in x)

pub good_insert : (w : World) (name : List ℕ) (documents : List Pairs) → IsLawful w → length name ≤ 255
    → Good (run_insert w (record { namespace = name; documents = documents }))
unfolding run_insert
good_insert w name documents h short = at (is_full w.collections name) refl
  where
    put : (r : Result Collection Refusal) → is_full w.collections name ≡ false → insert_all (collection_of w.collections name) documents ≡ r
        → Good (insert_answer w documents r)
    put (Err e) free is = λ x f. absurd cc
    put (Ok next) free is =
        let cs = w.collections in
        let grown = has_grown (collection_of cs name) next documents is in
        let kept = stored_at cs name h.collections.kept in
        let bounds = number_bounds cs name h.collections.kept (room cs name free) in
        let one : IsKept next = record {
          lawful = record { rising = grown.rising kept.0; stored = grown.stored kept.0 kept.1 };
          short = subst (λ (n : List ℕ). length n ≤ 255) (sym grown.named) short;
          least = subst (λ (n : ℕ). 1 ≤ n) (sym grown.numbered) bounds.least;
          most = subst (λ (n : ℕ). n ≤ 1000) (sym grown.numbered) bounds.most;
          indexes = grown.indexes (short_at cs name h.collections.kept);
        } in
        let p = put_kept next cs h.collections one (subst (λ (n : List ℕ). is_full cs n ≡ false) (sym grown.named) free)
        (grown.numbered ∙ ap (λ (n : List ℕ). number_or (unused cs) (find_collection cs n)) (sym grown.named)) in
        good_one (record w { collections = put_collection next cs }) (pair (codes "n") (int (length documents)) no_pairs)
        (record { collections = p; cursors = h.cursors }) (insert-sendable (length documents))

    at : (b : Bool) → is_full w.collections name ≡ b
        → Good (unless b refusals.TooMany (insert_answer w documents (insert_all (collection_of w.collections name) documents)))
    at true full = λ x f. absurd cc
    at false free = put (insert_all (collection_of w.collections name) documents) free refl

abbrev fits_in : List Pairs → Type 0
fits_in ds = length (items_bytes 0 (items_of_documents ds)) ≤ max (900000 - 5) (65535 + 3)

module _ (w : World) (connection : ℕ) (name : List ℕ) (rest : List Pairs) where
  abbrev opened_cursor : Cursor
  opened_cursor = new_cursor w.next connection name rest

  abbrev with_cursor : World
  with_cursor = record w { cursors = w.cursors ++ opened_cursor ∷ []; next = w.next + 1 }

  opened_lawful : (opened : World) → IsLawful w → All IsWithin rest → open_cursor w connection name rest ≡ Ok opened → IsLawful opened
  opened_lawful opened h stored e = at (is_refused connection w.cursors w.next) e
    where
      at : (b : Bool) → unless b refusals.TooMany (Ok with_cursor) ≡ Ok opened → IsLawful opened
      at true e = absurd cc
      at false e =
          let same : with_cursor ≡ opened = cc in
          let one : AreLawfulCursors (opened_cursor ∷ []) =
          All-cons (λ (c : Cursor). All IsWithin c.rest) opened_cursor [] stored (λ k d below. absurd (omega (arith, below))) in
          subst IsLawful same
          (record { collections = h.collections; cursors = All-append (λ (c : Cursor). All IsWithin c.rest) w.cursors (opened_cursor ∷ []) h.cursors one })

module _ (w : World) (connection : ℕ) (name : List ℕ) (ds : List Pairs) (most : ℕ) where
  abbrev n : ℕ
  n = batch_of most ds

  abbrev first : ℕ → Pairs
  first number = batch_reply (codes "firstBatch") n ds number name

  abbrev after_opening : Result World Refusal → Result (World × Pairs) Refusal
  after_opening r = r >>= (λ after. Ok (after, first w.next))

  pub good_batch : IsLawful w → length name ≤ 255 → All IsWithin ds → Good (first_batch w connection name ds n)
  good_batch h short within = at (nat_le (length ds) n)
    where
      small : fits_in (take n ds)
      small = batch_items most (900000 - 5) ds within

      sendable : IsSendable (ok_reply (first w.next))
      sendable = cursor-sendable (codes "firstBatch") (take n ds) (number_after n ds w.next) name (lit≤ tt) small short

      part : (r : Result World Refusal) → open_cursor w connection name (drop n ds) ≡ r → Good (after_opening r)
      part (Err e) is = λ x f. absurd cc
      part (Ok opened) is =
          good_one opened (first w.next) (opened_lawful w connection name (drop n ds) opened h (All-drop IsWithin n ds within) is) sendable

      at : (b : Bool) → Good (after_opening (if b then Ok w else open_cursor w connection name (drop n ds)))
      at true = good_one w (first w.next) h sendable
      at false = part (open_cursor w connection name (drop n ds)) refl

good_find : (w : World) (connection : ℕ) (name : List ℕ) (query : Query) (batch_size : Option ℕ) → IsLawful w → length name ≤ 255
    → Good (run_find w connection (record { namespace = name; query = query; batch_size = batch_size }))
unfolding run_find
good_find w connection name query batch_size h short =
    good_batch w connection name (found_by query (documents_of w.collections name)) (unwrap_or batch_size 101) h short
    (found_within query (documents_of w.collections name) (stored_at w.collections name h.collections.kept).1)

good_aggregate : (w : World) (connection : ℕ) (c : Aggregate) → IsLawful w → length c.namespace ≤ 255 → Good (run_aggregate w connection c)
unfolding run_aggregate
good_aggregate w connection c h short = at (after_pipeline c.pipeline 65535 (documents_of w.collections c.namespace)) refl
  where
    at : (r : Result (List Pairs) Refusal) → after_pipeline c.pipeline 65535 (documents_of w.collections c.namespace) ≡ r
        → Good (r >>= (λ ds. first_batch w connection c.namespace ds (batch_of (unwrap_or c.batch_size 101) ds)))
    at (Ok ds) is =
        good_batch w connection c.namespace ds (unwrap_or c.batch_size 101) h short
        (piped_within c.pipeline (documents_of w.collections c.namespace) ds (stored_at w.collections c.namespace h.collections.kept).1 is)
    at (Err e) is = λ x f. absurd cc

-- ---- open cursors

All-removed : {X : Type 0} (P : X → Type 0) (xs : List X) (i : ℕ) → All P xs → All P (remove xs i)
All-removed P [] zero h = h
All-removed P [] (suc i) h = h
All-removed P (x ∷ xs) zero h = All-tail P x xs h
All-removed P (x ∷ xs) (suc i) h = All-cons P x (remove xs i) (All-head P x xs h) (All-removed P xs i (All-tail P x xs h))

module _ (w : World) (c : GetMore) (at : ℕ) (h : IsLawful w) (within : at < length w.cursors) where
  abbrev given_by : Cursor
  given_by = cursor_at w.cursors at

  abbrev more : ℕ
  more = batch_len_of given_by c.batch_size

  abbrev advanced_cursor : Cursor
  advanced_cursor = record given_by { rest = drop more given_by.rest; touched = true }

  its_documents : All IsWithin given_by.rest
  its_documents = h.cursors at no_cursor within

  advanced_lawful : (b : Bool) → AreLawfulCursors (if b then remove w.cursors at else set w.cursors at advanced_cursor)
  advanced_lawful true = All-removed (λ (c : Cursor). All IsWithin c.rest) w.cursors at h.cursors
  advanced_lawful false =
      All-set (λ (c : Cursor). All IsWithin c.rest) w.cursors at advanced_cursor (All-drop IsWithin more given_by.rest its_documents) h.cursors

  good_next : length c.namespace ≤ 255 → Good (Ok (next_batch w c at))
  good_next short = λ x e.
      let same : next_batch w c at ≡ x = cc in
      let small = batch_items (unwrap_or c.batch_size (length given_by.rest)) (900000 - 5) given_by.rest its_documents in
      subst (λ (y : World × Pairs). IsLawful y.0 × IsSendable (ok_reply y.1)) same (
        record { collections = h.collections; cursors = advanced_lawful (nat_le (length given_by.rest) more) },
        cursor-sendable (codes "nextBatch") (take more given_by.rest) (number_after more given_by.rest given_by.number) c.namespace (lit≤ tt) small short,
      )

good_get_more : (w : World) (connection : ℕ) (c : GetMore) → IsLawful w → length c.namespace ≤ 255 → Good (run_get_more w connection c)
unfolding run_get_more
good_get_more w connection c h short = at (position (is_cursor connection c.namespace c.id) w.cursors) refl
  where
    at : (o : Option ℕ) → position (is_cursor connection c.namespace c.id) w.cursors ≡ o
        → Good (or_refused o refusals.CursorNotFound >>= (λ place. let x : Result (World × Pairs) Refusal = Ok (next_batch w c place) in x))
    at None is = λ x f. absurd cc
    at (Some place) is = good_next w c place h (position-Some (is_cursor connection c.namespace c.id) w.cursors place no_cursor is).0 short

good_kill_cursors : (w : World) (connection : ℕ) (c : KillCursors) → IsLawful w → length c.cursors ≤ 1000 → Good (run_kill_cursors w connection c)
unfolding run_kill_cursors
good_kill_cursors w connection c h few =
    let told = told_apart (has_cursor connection c.namespace w.cursors) no_ids c.cursors in
    let f = told_few (has_cursor connection c.namespace w.cursors) no_ids c.cursors 1000 (omega (arith, few)) in
    let asked = λ (cursor : Cursor). not (is_asked connection c.namespace c.cursors cursor) in
    good_one (record w { cursors = filter asked w.cursors }) (kill_reply told)
    (record { collections = h.collections; cursors = All-filter asked (λ (cursor : Cursor). All IsWithin cursor.rest) w.cursors h.cursors })
    (kill-sendable told f.0 f.1)

good_count : (w : World) (c : Count) → IsLawful w → Good (run_count w c)
unfolding run_count
good_count w c h =
    let n = length (window c.skip c.limit (matching c.filter (documents_of w.collections c.namespace))) in
    good_one w (pair (codes "n") (total n) no_pairs) h (insert-sendable (min n (2 ^ 31 - 1)))

good_delete : (w : World) (name : List ℕ) (deletions : List Deletion) → IsLawful w → Good (run_delete w (record { namespace = name; deletions = deletions }))
unfolding run_delete
good_delete w name deletions h =
    let n = length (documents_of w.collections name) - length (after_deletions deletions (documents_of w.collections name)) in
    let collections = deleted_lawful w.collections name deletions h.collections in
    good_one (record w { collections = deleted_in (find_collection w.collections name) deletions w.collections }) (pair (codes "n") (total n) no_pairs)
    (record { collections = collections; cursors = h.cursors }) (insert-sendable (min n (2 ^ 31 - 1)))

pub good_create : (w : World) (name : List ℕ) → IsLawful w → length name ≤ 255 → Good (run_create w (record { namespace = name }))
unfolding run_create
good_create w name h short = λ x e.
    let s = step_of (created w.collections name) (λ cs. let r : Result (World × Pairs) Refusal = Ok (record w { collections = cs }, no_pairs) in r) x e in
    let same : (record w { collections = s.0 }, no_pairs) ≡ x = cc in
    subst (λ (y : World × Pairs). IsLawful y.0 × IsSendable (ok_reply y.1)) same (record { collections = made s.0 s.1; cursors = h.cursors }, ping-sendable)
  where
    new : Collection
    new = with_documents w.collections name []

    made : (cs : List Collection) → created w.collections name ≡ Ok cs → IsLawfulState cs
    made cs e =
        let p = passed (is_some (find_collection w.collections name)) refusals.NamespaceExists
        (unless (nat_le 1000 (length w.collections)) refusals.TooMany (Ok (put_collection new w.collections))) cs e in
        let q = passed (nat_le 1000 (length w.collections)) refusals.TooMany (Ok (put_collection new w.collections)) cs p.1 in
        let now : put_collection new w.collections ≡ cs = cc in
        let free : is_full w.collections name ≡ false = ap (λ (b : Bool). b && not (is_some (find_collection w.collections name))) q.0 in
        let bounds = number_bounds w.collections name h.collections.kept (λ none. grind (arith, nat_tests, q.0)) in
        let one : IsKept new = record {
          lawful = record { rising = λ i j d lt within. absurd (omega (arith, within)); stored = λ k d below. absurd (omega (arith, below)) };
          short = short;
          least = bounds.least;
          most = bounds.most;
          indexes = short_at w.collections name h.collections.kept;
        } in
        subst IsLawfulState now (put_kept new w.collections h.collections one free refl)

good_drop : (w : World) (name : List ℕ) → IsLawful w → length name ≤ 255 → Good (run_drop w (record { namespace = name }))
unfolding run_drop
good_drop w name h short = λ x e.
    let reply = drop_reply (index_count w.collections name) name in
    let s = step_of (dropped w.collections name) (λ cs. let r : Result (World × Pairs) Refusal = Ok (record w { collections = cs }, reply) in r) x e in
    let same : (record w { collections = s.0 }, reply) ≡ x = cc in
    subst (λ (y : World × Pairs). IsLawful y.0 × IsSendable (ok_reply y.1)) same (
      record { collections = dropped_lawful w.collections name s.0 h.collections s.1; cursors = h.cursors },
      drop-sendable (index_count w.collections name) name short,
    )

pub good_create_indexes : (w : World) (name : List ℕ) (ns : List NewIndex) → IsLawful w → length name ≤ 255 → All IsShortNewIndex ns
    → Good (run_create_indexes w (record { namespace = name; indexes = ns }))
unfolding run_create_indexes
good_create_indexes w name ns h short limits = λ x e.
    let is_new = not (is_some (find_collection w.collections name)) in
    let reply : List Collection → Pairs = λ cs. create_indexes_reply (index_count w.collections name) (index_count cs name) is_new in
    let s = step_of (indexed w.collections name ns) (λ cs. let r : Result (World × Pairs) Refusal = Ok (record w { collections = cs }, reply cs) in r) x e in
    let same : (record w { collections = s.0 }, reply s.0) ≡ x = cc in
    subst (λ (y : World × Pairs). IsLawful y.0 × IsSendable (ok_reply y.1)) same (
      record { collections = indexed_lawful w.collections name ns s.0 h.collections short limits s.1; cursors = h.cursors },
      create_indexes-sendable (index_count w.collections name) (index_count s.0 name) is_new,
    )

pub good_drop_indexes : (w : World) (name : List ℕ) (away : DroppedIndexes) → IsLawful w → length name ≤ 255
    → Good (run_drop_indexes w (record { namespace = name; indexes = away }))
unfolding run_drop_indexes
good_drop_indexes w name away h short = λ x e.
    let reply = drop_indexes_reply (index_count w.collections name) in
    let s = step_of (index_dropped w.collections name away)
    (λ cs. let r : Result (World × Pairs) Refusal = Ok (record w { collections = cs }, reply) in r) x e in
    let same : (record w { collections = s.0 }, reply) ≡ x = cc in
    subst (λ (y : World × Pairs). IsLawful y.0 × IsSendable (ok_reply y.1)) same (
      record { collections = index_dropped_lawful w.collections name away s.0 h.collections short s.1; cursors = h.cursors },
      drop_indexes-sendable (index_count w.collections name),
    )

good_list_collections : (w : World) (c : ListCollections) → IsLawful w → length c.database ≤ 63 → Good (run_list_collections w c)
unfolding run_list_collections
good_list_collections w c h short =
    let ds = map listed (names_in (c.database ++ codes ".") w.collections) in
    let one = go_into_one (c.database ++ codes ".") w.collections h.collections.kept h.collections.few in
    let small : fits_in ds =
    subst fits_in (take_all (length ds) ds (omega arith))
    (subst (λ (n : ℕ). fits_in (take n ds)) one.whole (batch_items (length ds) (900000 - 5) ds one.within)) in
    good_one w (cursor_reply (codes "firstBatch") ds 0 (c.database ++ codes ".$cmd.listCollections")) h
    (cursor-sendable (codes "firstBatch") ds 0 (c.database ++ codes ".$cmd.listCollections") (lit≤ tt) small
    (omega (arith, short, length-append c.database (codes ".$cmd.listCollections"))))

good_list_indexes : (w : World) (name : List ℕ) → IsLawful w → length name ≤ 255 → Good (run_list_indexes w (record { namespace = name }))
unfolding run_list_indexes
good_list_indexes w name h short = at (find_collection w.collections name) refl
  where
    at : (o : Option Collection) → find_collection w.collections name ≡ o
        → Good (or_refused o refusals.NamespaceNotFound >>= (λ found. let r : Result (World × Pairs) Refusal = Ok (w, indexes_reply name found.indexes) in r))
    at None e = λ x f. absurd cc
    at (Some c) e =
        good_one w (indexes_reply name c.indexes) h (indexes-sendable c.indexes (found_kept w.collections name c h.collections.kept e).indexes name short)

good_explain : (w : World) (c : Explain) → IsLawful w → Good (run_explain w c)
unfolding run_explain
good_explain w c h =
    let found = find_collection w.collections c.namespace in
    let text = explain_text (plan_in c.query found) in
    good_one w (explain_reply text) h (explain-sendable text (plan_short c.query found (short_at w.collections c.namespace h.collections.kept).each))

-- ---- updates

-- what is written to a collection leaves lawful ones
pub entered_lawful : (cs : List Collection) (name : List ℕ) (ss : List UpdateStatement) (next : List Collection) → IsLawfulState cs → length name ≤ 255
    → All (λ (s : UpdateStatement). IsRead s.change) ss
    → entered_in name (writes_in name ss cs) cs ≡ Ok next → IsLawfulState next
entered_lawful cs name ss next h short read e =
    at (writes_in name ss cs) (writes_stored ss (documents_of cs name) (record { read = read; rising = kept.0; stored = kept.1 })) e
  where
    kept : Kept (documents_of cs name)
    kept = stored_at cs name h.kept

    at : (ws : List DocumentWrite) → All IsStored (documents_in ws) → entered_in name ws cs ≡ Ok next → IsLawfulState next
    at [] stored e = let same : cs ≡ next = cc in subst IsLawfulState same h
    at (w ∷ ws) stored e =
        let p = passed (is_full cs name) refusals.TooMany
        (enter_each (collection_of cs name) (w ∷ ws) >>= (λ c. let r : Result (List Collection) Refusal = Ok (put_collection c cs) in r)) next e in
        let s = step_of (enter_each (collection_of cs name) (w ∷ ws))
        (λ c. let r : Result (List Collection) Refusal = Ok (put_collection c cs) in r) next p.1 in
        let stays = stays_kept (collection_of cs name) s.0 (w ∷ ws) stored s.1 in
        let bounds = number_bounds cs name h.kept (room cs name p.0) in
        let one : IsKept s.0 = record {
          lawful = record { rising = stays.rising kept.0; stored = stays.stored kept.0 kept.1 };
          short = subst (λ (n : List ℕ). length n ≤ 255) (sym stays.named) short;
          least = subst (λ (n : ℕ). 1 ≤ n) (sym stays.numbered) bounds.least;
          most = subst (λ (n : ℕ). n ≤ 1000) (sym stays.numbered) bounds.most;
          indexes = stays.indexes (short_at cs name h.kept);
        } in
        let same : put_collection s.0 cs ≡ next = cc in
        subst IsLawfulState same
        (put_kept s.0 cs h one (subst (λ (n : List ℕ). is_full cs n ≡ false) (sym stays.named) p.0)
        (stays.numbered ∙ ap (λ (n : List ℕ). number_or (unused cs) (find_collection cs n)) (sym stays.named)))

not_long : (u : Updated) → nat_lt 1048555 (length (spelled (ok_reply (update_reply u)))) ≡ false → IsSendable (ok_reply (update_reply u))
not_long u e = grind (arith, nat_tests, e)

good_update : (w : World) (c : Update) → IsLawful w → IsBounded (update c) → Good (run_update w c)
unfolding run_update
good_update w c h b = λ x e.
    let cs = w.collections in
    let n = step_of (entered_in c.namespace (writes_in c.namespace c.statements cs) cs)
    (λ next. run_all c.namespace c.statements cs >>= (λ u. let r : Result (World × Pairs) Refusal = Ok (record w { collections = next }, update_reply u) in r))
    x e in
    let u = step_of (run_all c.namespace c.statements cs)
    (λ u. let r : Result (World × Pairs) Refusal = Ok (record w { collections = n.0 }, update_reply u) in r) x n.2 in
    let s = step_of (run_statements c.namespace 0 c.statements (not_updated cs)) judged u.0 u.1 in
    let p = passed (nat_lt 1048555 (length (spelled (ok_reply (update_reply s.0))))) refusals.BSONObjectTooLarge (Ok s.0) u.0 s.2 in
    let judged_as : s.0 ≡ u.0 = cc in
    let same : (record w { collections = n.0 }, update_reply u.0) ≡ x = cc in
    let sendable : IsSendable (ok_reply (update_reply u.0)) = subst (λ (v : Updated). IsSendable (ok_reply (update_reply v))) judged_as (not_long s.0 p.0) in
    subst (λ (y : World × Pairs). IsLawful y.0 × IsSendable (ok_reply y.1)) same
    (record { collections = entered_lawful cs c.namespace c.statements n.0 h.collections b.0 b.2 n.1; cursors = h.cursors }, sendable)

-- ---- any command

pub good_run : (w : World) (connection : ℕ) (command : Command) → IsLawful w → IsBounded command → Good (run w connection command)
good_run w connection ping h b = good_one w no_pairs h ping-sendable
good_run w connection hello h b = good_one w (hello_reply connection) h (hello-sendable connection)
good_run w connection (insert_of c) h b = good_insert w c.namespace c.documents h b.0
good_run w connection (find_of c) h b = good_find w connection c.namespace c.query c.batch_size h b
good_run w connection (get_more c) h b = good_get_more w connection c h b
good_run w connection (kill_cursors c) h b = good_kill_cursors w connection c h b
good_run w connection (count_of_all c) h b = good_count w c h
good_run w connection (delete c) h b = good_delete w c.namespace c.deletions h
good_run w connection (update c) h b = good_update w c h b
good_run w connection (aggregate c) h b = good_aggregate w connection c h b
good_run w connection (create_of c) h b = good_create w c.namespace h b
good_run w connection (drop_of c) h b = good_drop w c.namespace h b
good_run w connection (list_collections c) h b = good_list_collections w c h b
good_run w connection (create_indexes c) h b = good_create_indexes w c.namespace c.indexes h b.0 b.2
good_run w connection (drop_indexes c) h b = good_drop_indexes w c.namespace c.indexes h b
good_run w connection (list_indexes c) h b = good_list_indexes w c.namespace h b
good_run w connection (explain c) h b = good_explain w c h

-- the world after a step, and its reply
pub record Steps (x : World × Pairs) : Type 0 where
  pub lawful : IsLawful x.0
  pub sendable : IsSendable x.1

pub steps : (w : World) (connection : ℕ) (body : Result Pairs BsonFault) → IsLawful w → Steps (step w connection body)
steps w connection (Err fault) h = record { lawful = h; sendable = refusal-sendable refusals.InvalidBSON }
steps w connection (Ok body) h = at (command_of body) refl
  where
    ran : (c : Command) (r : Result (World × Pairs) Refusal) → Good r → Steps (answered w r)
    ran c (Err e) good = record { lawful = h; sendable = refusal-sendable e }
    ran c (Ok x) good = let g = good x refl in record { lawful = g.0; sendable = g.1 }

    at : (r : Result Command Refusal) → command_of body ≡ r → Steps (answered w (r >>= run w connection))
    at (Err e) is = record { lawful = h; sendable = refusal-sendable e }
    at (Ok c) is = ran c (run w connection c) (good_run w connection c h (bounded body c is))
