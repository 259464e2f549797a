-- A cursor gives its documents batch after batch, whatever comes between.
use Rattle.std.proofs.Common.{◌≡◌, ⊎_elim, inl, inr, ℕ, zero, suc, ◌+◌, ◌<◌, Bool, true, false, List, [], ◌∷◌, ◌++◌, length, get_or, set, remove, take, drop}
use Rattle.std.proofs.Common.{map, Option, Some, None, Result, Ok, Err, refl, sym, ap, ◌∙◌, arith, append_assoc}
use Rattle.std.specs.Prelude.{◌==◌, not, is_some, nat_le, if◌then◌else◌, codes, unwrap_or}
use Rattle.std.specs.List.{filter, position}
use Rattle.std.proofs.lemmas.Bool.Decides.{nat_tests}
use Rattle.std.proofs.lemmas.List.{take_all, take-append-drop}
use Rattle.std.proofs.lemmas.List.Quantifiers.{position-Some}
use Rattle.bson.specs.Tree.{Pairs, pair, no_pairs}
use Rattle.bson_bytes.specs.declared.fault.BsonFault.{BsonFault}
use Rattle.outcome.specs.Outcome.{◌>>=◌, unless, or_refused}
use Rattle.path.specs.declared.refusal.Refusal.{Refusal}
use Rattle.path.specs.declared.refusal.Refusal.TheVariants as refusals
use Rattle.command_model.specs.Insert.{Insert}
use Rattle.command_model.specs.Find.{Find}
use Rattle.command_model.specs.GetMore.{GetMore}
use Rattle.command_model.specs.KillCursors.{KillCursors}
use Rattle.command_model.specs.Count.{Count}
use Rattle.command_model.specs.Delete.{Delete}
use Rattle.command_model.specs.Update.{Update}
use Rattle.command_model.specs.Aggregate.{Aggregate}
use Rattle.command_model.specs.Create.{Create}
use Rattle.command_model.specs.DropCollection.{DropCollection}
use Rattle.command_model.specs.ListCollections.{ListCollections}
use Rattle.command_model.specs.ListIndexes.{ListIndexes}
use Rattle.database_model.specs.ListIndexes.{indexes_reply, run_list_indexes}
use Rattle.command_model.specs.Explain.{Explain}
use Rattle.database_model.specs.Explain.{run_explain}
use Rattle.command_model.specs.Command.{Command, ping, hello, insert, find, get_more, kill_cursors, count, delete, update, aggregate, create, drop as drop_of}
use Rattle.command_model.specs.Command.{list_collections, create_indexes, drop_indexes, list_indexes, explain, command_of}
use Rattle.aggregate_model.specs.Pipeline.{run as after_pipeline}
use Rattle.database_model.specs.World.{collection_of, World, Cursor, documents_of, with_documents, at_rest, untouched, without_cursors}
use Rattle.entry_model.specs.State.{Collection, find_collection, put_collection}
use Rattle.database_model.specs.Documents.{insert_all}
use Rattle.database_model.specs.Refusals.{int}
use Rattle.database_model.specs.Insert.{is_full}
use Rattle.database_model.specs.Cursors.{batch_of, batch_reply, is_refused, new_cursor, first_batch, is_cursor, no_cursor, cursor_at, advanced}
use Rattle.database_model.specs.GetMore.{batch_len_of, next_batch, run_get_more}
use Rattle.database_model.specs.KillCursors.{is_asked, run_kill_cursors}
use Rattle.database_model.specs.Insert.{run_insert}
use Rattle.database_model.specs.Find.{query_result, run_find}
use Rattle.database_model.specs.Count.{run_count}
use Rattle.database_model.specs.Delete.{run_delete}
use Rattle.database_model.specs.Update.{Updated, update_reply, run_all}
use Rattle.database_model.specs.UpdateCommand.{entered_in, run_update, writes_in}
use Rattle.database_model.specs.Aggregate.{run_aggregate}
use Rattle.database_model.specs.Create.{created, run_create}
use Rattle.command_model.specs.CreateIndexes.{CreateIndexes}
use Rattle.database_model.specs.CreateIndexes.{create_indexes_reply, indexed, run_create_indexes}
use Rattle.command_model.specs.DropIndexes.{DropIndexes}
use Rattle.database_model.specs.DropIndexes.{drop_indexes_reply, index_dropped, run_drop_indexes}
use Rattle.database_model.specs.DropCollection.{drop_reply, dropped, index_count, run_drop}
use Rattle.database_model.specs.ListCollections.{run_list_collections}
use Rattle.database_model.specs.Step.{run, answered, step}
use Rattle.database_model.specs.CursorLife.{Event, command, committed, undone, ended, after_event, batch_at, batch_in, batch_of_body, given_by, given, HasLeft}
use Rattle.database_model.specs.CursorLife.{GivesItsList, LastBatchIsWhole}

-- ---- filtered lists

module _ {X : Type 0} (q : X → Bool) where
  abbrev keep_if : Bool → X → List X → List X
  keep_if b x xs = if b then x ∷ xs else xs

  filter-swap : (p : X → Bool) (xs : List X) → filter q (filter p xs) ≡ filter p (filter q xs)
  filter-swap p [] = refl
  filter-swap p (x ∷ xs) = at (p x) (q x) refl refl (filter-swap p xs)
    where
      at : (a b : Bool) → p x ≡ a → q x ≡ b → filter q (filter p xs) ≡ filter p (filter q xs)
          → filter q (keep_if a x (filter p xs)) ≡ filter p (keep_if b x (filter q xs))
      at true true e f later = ap (λ (c : Bool). keep_if c x (filter q (filter p xs))) f ∙ ap (λ (ys : List X). x ∷ ys) later
          ∙ sym (ap (λ (c : Bool). keep_if c x (filter p (filter q xs))) e)
      at true false e f later = ap (λ (c : Bool). keep_if c x (filter q (filter p xs))) f ∙ later
      at false true e f later = later ∙ sym (ap (λ (c : Bool). keep_if c x (filter p (filter q xs))) e)
      at false false e f later = later

  filter-push : (xs : List X) (y : X) → q y ≡ false → filter q (xs ++ y ∷ []) ≡ filter q xs
  filter-push [] y e = ap (λ (c : Bool). keep_if c y []) e
  filter-push (x ∷ xs) y e = ap (keep_if (q x) x) (filter-push xs y e)

  filter-remove_other : (xs : List X) (i : ℕ) (d : X) → i < length xs → q (get_or xs i d) ≡ false → filter q (remove xs i) ≡ filter q xs
  filter-remove_other [] i d h e = absurd (omega (arith, h))
  filter-remove_other (x ∷ xs) zero d h e = sym (ap (λ (c : Bool). keep_if c x (filter q xs)) e)
  filter-remove_other (x ∷ xs) (suc i) d h e = ap (keep_if (q x) x) (filter-remove_other xs i d (omega (arith, h)) e)

  filter-set_other : (xs : List X) (i : ℕ) (y d : X) → i < length xs → q (get_or xs i d) ≡ false → q y ≡ false → filter q (set xs i y) ≡ filter q xs
  filter-set_other [] i y d h e f = absurd (omega (arith, h))
  filter-set_other (x ∷ xs) zero y d h e f = ap (λ (c : Bool). keep_if c y (filter q xs)) f ∙ sym (ap (λ (c : Bool). keep_if c x (filter q xs)) e)
  filter-set_other (x ∷ xs) (suc i) y d h e f = ap (keep_if (q x) x) (filter-set_other xs i y d (omega (arith, h)) e f)

  filter-some : (xs : List X) (i : ℕ) (d : X) → i < length xs → q (get_or xs i d) ≡ true → filter q xs ≡ [] → ⊥
  filter-some [] i d h e f = absurd (omega (arith, h))
  filter-some (x ∷ xs) zero d h e f = let some : x ∷ filter q xs ≡ [] = sym (ap (λ (c : Bool). keep_if c x (filter q xs)) e) ∙ f in absurd cc
  filter-some (x ∷ xs) (suc i) d h e f = at (q x) f (filter-some xs i d (omega (arith, h)) e)
    where
      at : (b : Bool) → keep_if b x (filter q xs) ≡ [] → (filter q xs ≡ [] → ⊥) → ⊥
      at true f later = absurd cc
      at false f later = later f

  -- the only one that passes stands there
  record Only (xs : List X) (i : ℕ) (d c : X) : Type 0 where
    is : get_or xs i d ≡ c
    gone : filter q (remove xs i) ≡ []
    other : (y : X) → q y ≡ true → filter q (set xs i y) ≡ y ∷ []

  only : (xs : List X) (i : ℕ) (d c : X) → i < length xs → q (get_or xs i d) ≡ true → filter q xs ≡ c ∷ [] → Only xs i d c
  only [] i d c h e f = absurd (omega (arith, h))
  only (x ∷ xs) zero d c h e f =
      let one : x ∷ filter q xs ≡ c ∷ [] = sym (ap (λ (b : Bool). keep_if b x (filter q xs)) e) ∙ f in
      let none : filter q xs ≡ [] = cc in
      record {
        is = cc;
        gone = none;
        other = λ y g. ap (λ (b : Bool). keep_if b y (filter q xs)) g ∙ ap (λ (ys : List X). y ∷ ys) none;
      }
  only (x ∷ xs) (suc i) d c h e f = at (q x) refl f (λ g. only xs i d c (omega (arith, h)) e g)
    where
      at : (b : Bool) → q x ≡ b → keep_if b x (filter q xs) ≡ c ∷ [] → (filter q xs ≡ c ∷ [] → Only xs i d c) → Only (x ∷ xs) (suc i) d c
      at true g f later = let none : filter q xs ≡ [] = cc in absurd (filter-some xs i d (omega (arith, h)) e none)
      at false g f later =
          let one = later f in
          record {
            is = one.is;
            gone = ap (λ (b : Bool). keep_if b x (filter q (remove xs i))) g ∙ one.gone;
            other = λ y k. ap (λ (b : Bool). keep_if b x (filter q (set xs i y))) g ∙ one.other y k;
          }

-- ---- the cursor of a number

abbrev mine : ℕ → List Cursor → List Cursor
mine k cs = filter (λ c. c.number == k) cs

same_mine : (k : ℕ) (old new : List Cursor) (left : List Pairs) → mine k new ≡ mine k old → HasLeft k old left → HasLeft k new left
same_mine k old new left e h = ⊎_elim (λ none. inl (e ∙ none)) (λ one. inr (one.0, e ∙ one.1, one.2)) h

-- what passes another test is left or gone
after_filter : (k : ℕ) (p : Cursor → Bool) (cs : List Cursor) (left : List Pairs) → HasLeft k cs left → HasLeft k (filter p cs) left
after_filter k p cs left h =
    ⊎_elim (λ none. inl (filter-swap (λ (c : Cursor). c.number == k) p cs ∙ ap (filter p) none)) (λ one. at (p one.0) one.0 refl one.1 one.2) h
  where
    at : (b : Bool) (c : Cursor) → p c ≡ b → mine k cs ≡ c ∷ [] → c.rest ≡ left → HasLeft k (filter p cs) left
    at true c e is rest = inr (c, filter-swap (λ (d : Cursor). d.number == k) p cs ∙ ap (filter p) is ∙ ap (λ (a : Bool). if a then c ∷ [] else []) e, rest)
    at false c e is rest = inl (filter-swap (λ (d : Cursor). d.number == k) p cs ∙ ap (filter p) is ∙ ap (λ (a : Bool). if a then c ∷ [] else []) e)

mine-rest : (k : ℕ) (cs : List Cursor) → mine k (map at_rest cs) ≡ map at_rest (mine k cs)
mine-rest k [] = refl
mine-rest k (c ∷ cs) = at (c.number == k) (mine-rest k cs)
  where
    at : (b : Bool) → mine k (map at_rest cs) ≡ map at_rest (mine k cs)
        → (if b then at_rest c ∷ mine k (map at_rest cs) else mine k (map at_rest cs)) ≡ map at_rest (if b then c ∷ mine k cs else mine k cs)
    at true later = ap (λ (ds : List Cursor). at_rest c ∷ ds) later
    at false later = later

after_rest : (k : ℕ) (cs : List Cursor) (left : List Pairs) → HasLeft k cs left → HasLeft k (map at_rest cs) left
after_rest k cs left h =
    ⊎_elim (λ none. inl (mine-rest k cs ∙ ap (map at_rest) none)) (λ one. inr (at_rest one.0, mine-rest k cs ∙ ap (map at_rest) one.1, one.2)) h

-- the world after an event that gave these documents of the cursor, which had so many left
pub record Next (k : ℕ) (batch left : List Pairs) (new : World) : Type 0 where
  pub rest : List Pairs
  pub whole : batch ++ rest ≡ left
  pub is_left : HasLeft k new.cursors rest
  pub drawn : k < new.next

keeps : (k : ℕ) (left : List Pairs) (new : World) → HasLeft k new.cursors left → k < new.next → Next k [] left new
keeps k left new h drawn = record { rest = left; whole = refl; is_left = h; drawn = drawn }

-- the cursor at a place gives a batch of n documents
module _ (k : ℕ) (w : World) (place n : ℕ) (left : List Pairs) (within : place < length w.cursors) (drawn : k < w.next) where
  abbrev here : Cursor
  here = cursor_at w.cursors place

  abbrev moved : Cursor
  moved = record here { rest = drop n here.rest; touched = true }

  abbrev batch_if : Bool → List Pairs
  batch_if b = if b then take n here.rest else []

  abbrev cursors_if : Bool → List Cursor
  cursors_if b = if b then remove w.cursors place else set w.cursors place moved

  advances : HasLeft k w.cursors left → Next k (batch_if (here.number == k)) left (record w { cursors = advanced w.cursors place n })
  advances h = at (here.number == k) refl (nat_le (length here.rest) n)
    where
      its : (here.number == k) ≡ true → (closes : Bool) → Next k (take n here.rest) left (record w { cursors = cursors_if closes })
      its e b = ⊎_elim (λ none. absurd (filter-some (λ (c : Cursor). c.number == k) w.cursors place no_cursor within e none))
          (λ one. gives one.0 one.1 one.2 b) h
        where
          gives : (c : Cursor) → mine k w.cursors ≡ c ∷ [] → c.rest ≡ left → (b : Bool) → Next k (take n here.rest) left (record w { cursors = cursors_if b })
          gives c is had b =
              let one = only (λ (d : Cursor). d.number == k) w.cursors place no_cursor c within e is in
              let whole : take n here.rest ++ drop n here.rest ≡ left = take-append-drop n here.rest ∙ ap (λ (d : Cursor). d.rest) one.is ∙ had in
              shut b one.gone (one.other moved e) whole
            where
              shut : (b : Bool) → mine k (remove w.cursors place) ≡ [] → mine k (set w.cursors place moved) ≡ moved ∷ []
                  → take n here.rest ++ drop n here.rest ≡ left → Next k (take n here.rest) left (record w { cursors = cursors_if b })
              shut true gone other whole = record { rest = drop n here.rest; whole = whole; is_left = inl gone; drawn = drawn }
              shut false gone other whole = record { rest = drop n here.rest; whole = whole; is_left = inr (moved, other, refl); drawn = drawn }

      others : (here.number == k) ≡ false → (closes : Bool) → Next k [] left (record w { cursors = cursors_if closes })
      others e true =
          keeps k left (record w { cursors = remove w.cursors place })
          (same_mine k w.cursors (remove w.cursors place) left (filter-remove_other (λ (c : Cursor). c.number == k) w.cursors place no_cursor within e) h) drawn
      others e false =
          keeps k left (record w { cursors = set w.cursors place moved })
          (same_mine k w.cursors (set w.cursors place moved) left
          (filter-set_other (λ (c : Cursor). c.number == k) w.cursors place moved no_cursor within e e) h) drawn

      at : (b : Bool) → (here.number == k) ≡ b → (closes : Bool) → Next k (batch_if b) left (record w { cursors = cursors_if closes })
      at true e b = its e b
      at false e b = others e b

-- ---- one command

module _ (k : ℕ) (w : World) (connection : ℕ) (left : List Pairs) (drawn : k < w.next) (h : HasLeft k w.cursors left) where
  abbrev Keeps : Result (World × Pairs) Refusal → Type 0
  Keeps r = Next k [] left (answered w r).0

  same : Next k [] left w
  same = keeps k left w h drawn

  extends : (cs : List Collection) → Next k [] left (record w { collections = cs })
  extends cs = keeps k left (record w { collections = cs }) h drawn

  inserted : (c : Insert) → Keeps (run_insert w c)
  unfolding run_insert
  inserted c = at (is_full w.collections c.namespace) (insert_all (collection_of w.collections c.namespace) c.documents)
    where
      at : (full : Bool) (r : Result Collection Refusal)
          → Keeps (unless full refusals.TooMany
          (r >>= (λ next. let x : Result (World × Pairs) Refusal =
          Ok (record w { collections = put_collection next w.collections }, pair (codes "n") (int (length c.documents)) no_pairs) in x)))
      at true r = same
      at false (Ok next) = extends (put_collection next w.collections)
      at false (Err e) = same

  counted : (c : Count) → Keeps (run_count w c)
  unfolding run_count
  counted c = same

  deleted : (c : Delete) → Keeps (run_delete w c)
  unfolding run_delete
  deleted c = keeps k left _ h drawn

  updated : (c : Update) → Keeps (run_update w c)
  unfolding run_update
  updated c = at (entered_in c.namespace (writes_in c.namespace c.statements w.collections) w.collections) (run_all c.namespace c.statements w.collections)
    where
      at : (r : Result (List Collection) Refusal) (q : Result Updated Refusal)
          → Keeps (r >>= (λ next. q >>= (λ u. let x : Result (World × Pairs) Refusal = Ok (record w { collections = next }, update_reply u) in x)))
      at (Ok next) (Ok u) = extends next
      at (Ok next) (Err e) = same
      at (Err e) q = same

  made : (c : Create) → Keeps (run_create w c)
  unfolding run_create
  made c = at (created w.collections c.namespace)
    where
      at : (r : Result (List Collection) Refusal)
          → Keeps (r >>= (λ cs. let x : Result (World × Pairs) Refusal = Ok (record w { collections = cs }, no_pairs) in x))
      at (Err e) = same
      at (Ok cs) = extends cs

  indexed_so : (c : CreateIndexes) → Keeps (run_create_indexes w c)
  unfolding run_create_indexes
  indexed_so c = at (indexed w.collections c.namespace c.indexes)
    where
      is_new : Bool
      is_new = not (is_some (find_collection w.collections c.namespace))

      at : (r : Result (List Collection) Refusal)
          → Keeps (r >>= (λ cs. let x : Result (World × Pairs) Refusal =
          Ok (record w { collections = cs }, create_indexes_reply (index_count w.collections c.namespace) (index_count cs c.namespace) is_new) in x))
      at (Err e) = same
      at (Ok cs) = extends cs

  unindexed_so : (c : DropIndexes) → Keeps (run_drop_indexes w c)
  unfolding run_drop_indexes
  unindexed_so c = at (index_dropped w.collections c.namespace c.indexes)
    where
      at : (r : Result (List Collection) Refusal)
          → Keeps (r >>=
          (λ cs. let x : Result (World × Pairs) Refusal = Ok (record w { collections = cs }, drop_indexes_reply (index_count w.collections c.namespace)) in x))
      at (Err e) = same
      at (Ok cs) = extends cs

  dropped_so : (c : DropCollection) → Keeps (run_drop w c)
  unfolding run_drop
  dropped_so c = at (dropped w.collections c.namespace)
    where
      at : (r : Result (List Collection) Refusal)
          → Keeps (r >>=
          (λ cs. let x : Result (World × Pairs) Refusal = Ok (record w { collections = cs }, drop_reply (index_count w.collections c.namespace) c.namespace) in
          x))
      at (Err e) = same
      at (Ok cs) = extends cs

  listed_so : (c : ListCollections) → Keeps (run_list_collections w c)
  unfolding run_list_collections
  listed_so c = same

  indexes_listed : (c : ListIndexes) → Keeps (run_list_indexes w c)
  unfolding run_list_indexes
  indexes_listed c = at (find_collection w.collections c.namespace)
    where
      at : (o : Option Collection)
          → Keeps (or_refused o refusals.NamespaceNotFound >>=
          (λ found. let x : Result (World × Pairs) Refusal = Ok (w, indexes_reply c.namespace found.indexes) in x))
      at None = same
      at (Some found) = same

  explained : (c : Explain) → Keeps (run_explain w c)
  unfolding run_explain
  explained c = same

  batched : (name : List ℕ) (ds : List Pairs) (n : ℕ) → Keeps (first_batch w connection name ds n)
  batched name ds n = at (nat_le (length ds) n) (is_refused connection w.cursors w.next)
    where
      new : Cursor
      new = new_cursor w.next connection name (drop n ds)

      opened : World
      opened = record w { cursors = w.cursors ++ new ∷ []; next = w.next + 1 }

      other : (w.next == k) ≡ false
      other = grind (arith, nat_tests, drawn)

      more : Next k [] left opened
      more = keeps k left opened (same_mine k w.cursors (w.cursors ++ new ∷ []) left (filter-push (λ (c : Cursor). c.number == k) w.cursors new other) h)
          (omega (arith, drawn))

      at : (whole refused : Bool)
          → Keeps ((if whole then Ok w else unless refused refusals.TooMany (Ok opened)) >>=
          (λ after. let x : Result (World × Pairs) Refusal = Ok (after, batch_reply (codes "firstBatch") n ds w.next name) in x))
      at true refused = same
      at false true = same
      at false false = more

  found : (c : Find) → Keeps (run_find w connection c)
  unfolding run_find
  found c =
      let ds = query_result c.query (documents_of w.collections c.namespace) in
      batched c.namespace ds (batch_of (unwrap_or c.batch_size 101) ds)

  aggregated : (c : Aggregate) → Keeps (run_aggregate w connection c)
  unfolding run_aggregate
  aggregated c = at (after_pipeline c.pipeline 65535 (documents_of w.collections c.namespace))
    where
      at : (r : Result (List Pairs) Refusal) → Keeps (r >>= (λ ds. first_batch w connection c.namespace ds (batch_of (unwrap_or c.batch_size 101) ds)))
      at (Ok ds) = batched c.namespace ds (batch_of (unwrap_or c.batch_size 101) ds)
      at (Err e) = same

  killed : (c : KillCursors) → Keeps (run_kill_cursors w connection c)
  unfolding run_kill_cursors
  killed c =
      let p : Cursor → Bool = λ cursor. not (is_asked connection c.namespace c.cursors cursor) in
      keeps k left (record w { cursors = filter p w.cursors }) (after_filter k p w.cursors left h) drawn

  more_given : (c : GetMore)
      → Next k (batch_at k w c (position (is_cursor connection c.namespace c.id) w.cursors)) left (answered w (run_get_more w connection c)).0
  unfolding run_get_more
  more_given c = at (position (is_cursor connection c.namespace c.id) w.cursors) refl
    where
      at : (o : Option ℕ) → position (is_cursor connection c.namespace c.id) w.cursors ≡ o
          → Next k (batch_at k w c o) left
          (answered w (or_refused o refusals.CursorNotFound >>= (λ place. let x : Result (World × Pairs) Refusal = Ok (next_batch w c place) in x))).0
      at None e = same
      at (Some place) e =
          advances k w place (batch_len_of (cursor_at w.cursors place) c.batch_size) left
          (position-Some (is_cursor connection c.namespace c.id) w.cursors place no_cursor e).0 drawn h

  ran : (r : Result Command Refusal) → Next k (batch_in k w connection r) left (answered w (r >>= run w connection)).0
  ran (Err e) = same
  ran (Ok ping) = same
  ran (Ok hello) = same
  ran (Ok (insert c)) = inserted c
  ran (Ok (find c)) = found c
  ran (Ok (get_more c)) = more_given c
  ran (Ok (kill_cursors c)) = killed c
  ran (Ok (count c)) = counted c
  ran (Ok (delete c)) = deleted c
  ran (Ok (update c)) = updated c
  ran (Ok (aggregate c)) = aggregated c
  ran (Ok (create c)) = made c
  ran (Ok (drop_of c)) = dropped_so c
  ran (Ok (list_collections c)) = listed_so c
  ran (Ok (create_indexes c)) = indexed_so c
  ran (Ok (drop_indexes c)) = unindexed_so c
  ran (Ok (list_indexes c)) = indexes_listed c
  ran (Ok (explain c)) = explained c

  -- ---- one event

  stepped : (body : Result Pairs BsonFault) → Next k (batch_of_body k w connection body) left (step w connection body).0
  stepped (Ok body) = ran (command_of body)
  stepped (Err fault) = same

pub happens : (k : ℕ) (w : World) (e : Event) (left : List Pairs) → k < w.next → HasLeft k w.cursors left → Next k (given_by k w e) left (after_event w e)
happens k w (command connection body) left drawn h = stepped k w connection left drawn h body
happens k w committed left drawn h = keeps k left (record w { cursors = map at_rest w.cursors }) (after_rest k w.cursors left h) drawn
happens k w (undone before) left drawn h =
    keeps k left (record w { collections = before; cursors = untouched w.cursors }) (after_filter k (λ c. not c.touched) w.cursors left h) drawn
happens k w (ended connection) left drawn h =
    keeps k left (record w { cursors = without_cursors connection w.cursors }) (after_filter k (λ c. not (c.connection == connection)) w.cursors left h) drawn

pub gives_its_list : GivesItsList
gives_its_list k w [] had drawn h = record { left = had; whole = refl; is_left = h }
gives_its_list k w (e ∷ es) had drawn h =
    let n = happens k w e had drawn h in
    let later = gives_its_list k (after_event w e) es n.rest n.drawn n.is_left in
    record {
      left = later.left;
      whole = append_assoc (given_by k w e) (given k (after_event w e) es) later.left ∙ ap (λ (ds : List Pairs). given_by k w e ++ ds) later.whole ∙ n.whole;
      is_left = later.is_left;
    }

pub last_batch_is_whole : LastBatchIsWhole
last_batch_is_whole n number left e = at (nat_le (length left) n) refl e
  where
    at : (b : Bool) → nat_le (length left) n ≡ b → (if b then 0 else suc number) ≡ 0 → take n left ≡ left
    at true whole e = take_all n left (grind (arith, nat_tests, whole))
    at false part e = absurd cc
