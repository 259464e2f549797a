-- The reply of an update is no longer than the body that asks for it: what it says of a document that was made takes less than the statement that made it.
use Rattle.std.proofs.Common.{◌≡◌, ℕ, suc, ◌+◌, ◌*◌, ◌<◌, ◌≤◌, Bool, true, false, List, [], ◌∷◌, length, Result, Ok, Err, refl, sym, ap, subst, ◌∙◌, arith}
use Rattle.std.specs.Prelude.{if◌then◌else◌, ◌&&◌, ◌==◌, not, is_some, nat_le, nat_lt, codes, All}
use Rattle.std.specs.Fmt.{decimal}
use Rattle.std.specs.Str.{bytes_eq}
use Rattle.std.proofs.lemmas.Bool.{eqb-false}
use Rattle.std.proofs.lemmas.Bool.Decides.{nat_tests}
use Rattle.std.proofs.lemmas.Fmt.{length-decimal-le}
use Rattle.std.proofs.lemmas.List.{length-append}
use Rattle.std.proofs.lemmas.Slice.Eq.{bytes_eq-Decides}
use Rattle.bson.specs.EditPlaces.{items_len-append}
use Rattle.bson.specs.Edits.{items_len}
use Rattle.bson.specs.SizingLaws.{element-length, frame_of-length, items_bytes-append, items_bytes-none, pairs_bytes-none, pairs_size-pair}
use Rattle.bson.specs.Spelling.{element, items_bytes, pairs_bytes, tree_bytes, type_byte}
use Rattle.bson.specs.Tree.{Tree, document, array, append, append_items, Pairs, no_pairs, pair, Items, no_items, item}
use Rattle.outcome.specs.Outcome.{◌>>=◌, unless, or_refused}
use Rattle.path.specs.declared.refusal.Refusal.{Refusal}
use Rattle.path.specs.declared.refusal.Refusal.TheVariants as refusals
use Rattle.update_model.specs.Applying.{apply}
use Rattle.update_model.specs.Upserts.{base_of}
use Rattle.command_model.specs.Aggregate.{read_aggregate}
use Rattle.command_model.specs.Command.{aggregate, as_command, Command, command_of, count, create, create_indexes, delete, drop, drop_indexes, explain}
use Rattle.command_model.specs.Command.{find, get_more, hello}
use Rattle.command_model.specs.Command.{insert, kill_cursors, list_collections, list_indexes, ping, update}
use Rattle.command_model.specs.CommandLaws.{bounded}
use Rattle.command_model.specs.Count.{read_count}
use Rattle.command_model.specs.Create.{read_create}
use Rattle.command_model.specs.CreateIndexes.{read_create_indexes}
use Rattle.command_model.specs.Delete.{read_delete}
use Rattle.command_model.specs.DropCollection.{read_drop}
use Rattle.command_model.specs.DropIndexes.{read_drop_indexes}
use Rattle.command_model.specs.Explain.{read_explain}
use Rattle.command_model.specs.Find.{read_find}
use Rattle.command_model.specs.GetMore.{read_get_more}
use Rattle.command_model.specs.Hello.{read_hello}
use Rattle.command_model.specs.Insert.{read_insert}
use Rattle.command_model.specs.KillCursors.{read_kill_cursors}
use Rattle.command_model.specs.ListCollections.{read_list_collections}
use Rattle.command_model.specs.ListIndexes.{read_list_indexes}
use Rattle.command_model.specs.OutcomeLaws.{step_of, passed}
use Rattle.command_model.specs.Ping.{read_ping}
use Rattle.command_model.specs.Update.{UpdateStatement, Update, IsRead, read_update_command}
use Rattle.entry_model.specs.State.{find_collection}
use Rattle.database_model.specs.Documents.{key_of, key_checked, place}
use Rattle.database_model.specs.Refusals.{int, total, ok_reply}
use Rattle.database_model.specs.Update.{Changed, judged, not_changed, not_updated, run_statement, run_statements, spelled, update_from, update_reply}
use Rattle.database_model.specs.Update.{updated_to}
use Rattle.database_model.specs.Update.{Updated, upsert, upsert_document, upserted_entry, with_upserted}
use Rattle.database_model.specs.World.{documents_of}
use Rattle.statements.specs.Room.{field_size, fields_size, RepliesAreShort, RepliesHaveRoom}
use Rattle.statements.proofs.IdSizes.{base_size, change_size, filter_size, made_size}
use Rattle.statements.proofs.StatementSizes.{command_spelled, flag_size, statement_size, statements_size}

length-int : (n : ℕ) → length (tree_bytes (int n)) ≡ 4
unfolding tree_bytes
length-int n = refl

length-total : (n : ℕ) → length (tree_bytes (total n)) ≡ 4
unfolding tree_bytes
length-total n = refl

length-document : (ps : Pairs) → length (tree_bytes (document ps)) ≡ length (pairs_bytes ps) + 5
unfolding tree_bytes
length-document ps = frame_of-length (pairs_bytes ps)

length-array : (ts : Items) → length (tree_bytes (array ts)) ≡ length (items_bytes 0 ts) + 5
unfolding tree_bytes
length-array ts = frame_of-length (items_bytes 0 ts)

-- ---- what is said of the documents that were made

entry_size : (index : ℕ) (id : Tree) → length (tree_bytes (document (upserted_entry index id))) ≡ length (tree_bytes id) + 21
entry_size index id =
    let named : Pairs = pair (codes "_id") id no_pairs in
    omega (
      arith,
      length-document (upserted_entry index id),
      pairs_size-pair (codes "index") (int index) named,
      length-int index,
      pairs_size-pair (codes "_id") id no_pairs,
      ap length pairs_bytes-none,
    )

-- their bytes, and nine for each, by which a statement is longer
abbrev told_size : Items → ℕ
told_size ts = length (items_bytes 0 ts) + 9 * items_len ts

one_more_told : (ts : Items) (index : ℕ) (id : Tree) → items_len ts < 1000
    → told_size (append_items ts (item (document (upserted_entry index id)) no_items)) ≤ told_size ts + length (tree_bytes id) + 35
one_more_told ts index id few =
    let entry = document (upserted_entry index id) in
    let digits : length (decimal (0 + items_len ts)) ≤ 3 = length-decimal-le 3 (0 + items_len ts) (omega arith) (omega (arith, few)) (omega (arith, few)) in
    omega (
      arith,
      digits,
      entry_size index id,
      items_len-append ts (item entry no_items),
      ap length (items_bytes-append 0 ts entry),
      length-append (items_bytes 0 ts) (element (type_byte entry) (decimal (0 + items_len ts)) (tree_bytes entry)),
      element-length (type_byte entry) (decimal (0 + items_len ts)) (tree_bytes entry),
    )

-- ---- one statement

-- A statement tells no more than it takes, and of one document at most.
record Tells (s : UpdateStatement) (u v : Updated) : Type 0 where
  size : told_size v.upserted ≤ told_size u.upserted + statement_size s + 5
  most : items_len v.upserted ≤ suc (items_len u.upserted)

made_by : (s : UpdateStatement) (new : Pairs) → IsRead s.change → upsert_document s ≡ Ok new
    → length (tree_bytes (key_of new)) + 5 ≤ filter_size s.filter + change_size s.change
made_by s new read e =
    let b = step_of (base_of s.filter) _ new e in
    let n = step_of (apply s.change 65535 b.0) _ new b.2 in
    let k = step_of (key_checked (key_of n.0)) (λ key. let r : Result Pairs Refusal = Ok n.0 in r) new n.2 in
    let same : n.0 ≡ new = cc in
    omega (
      arith,
      base_size s.filter b.0 b.1,
      made_size s.change b.0 n.0 read n.1,
      ap (λ (x : Pairs). length (tree_bytes (key_of x))) same,
    )

module _ (name : List ℕ) (index : ℕ) (s : UpdateStatement) (read : IsRead s.change) (u v : Updated) (few : items_len u.upserted < 1000) where
  upsert_tells : s.upsert ≡ true → upsert name index s u ≡ Ok v → Tells s u v
  upsert_tells asked e =
      let p = passed (nat_le 1000 (length u.collections) && not (is_some (find_collection u.collections name))) refusals.TooMany _ v e in
      let n = step_of (upsert_document s) _ v p.1 in
      let stored = step_of (or_refused (place (key_of n.0) n.0 (documents_of u.collections name)) refusals.DuplicateKey)
      (λ ds. let r : Result Updated Refusal = Ok (with_upserted name index n.0 ds u) in r) v n.2 in
      let same : with_upserted name index n.0 stored.0 u ≡ v = cc in
      let entry = document (upserted_entry index (key_of n.0)) in
      subst (Tells s u) same (record {
        size = omega (arith, one_more_told u.upserted index (key_of n.0) few, made_by s n.0 read n.1, ap flag_size asked);
        most = omega (arith, items_len-append u.upserted (item entry no_items));
      })

  statement_tells : run_statement name index s u ≡ Ok v → Tells s u v
  statement_tells e =
      let c = step_of (update_from s (not_changed u) (documents_of u.collections name)) _ v e in
      by c.0 (not c.0.found) s.upsert refl c.2
    where
      by : (c : Changed) (missing asked : Bool) → s.upsert ≡ asked → (if missing && asked then upsert name index s u else Ok (updated_to name u c)) ≡ Ok v
          → Tells s u v
      by c true true is f = upsert_tells is f
      by c true false is f = unmade c (let same : updated_to name u c ≡ v = cc in same)
        where
          unmade : (c : Changed) → updated_to name u c ≡ v → Tells s u v
          unmade c same = subst (Tells s u) same (record { size = omega arith; most = omega arith })
      by c false asked is f =
          let same : updated_to name u c ≡ v = cc in
          subst (Tells s u) same (record { size = omega arith; most = omega arith })

-- ---- all statements

statements_tell : (name : List ℕ) (index : ℕ) (ss : List UpdateStatement) (u v : Updated) → All (λ (s : UpdateStatement). IsRead s.change) ss
    → items_len u.upserted + length ss ≤ 1000 → run_statements name index ss u ≡ Ok v
    → told_size v.upserted ≤ told_size u.upserted + statements_size ss
statements_tell name index [] u v read few e = let same : u ≡ v = cc in omega (arith, ap (λ (x : Updated). told_size x.upserted) same)
statements_tell name index (s ∷ ss) u v read few e =
    let n = step_of (run_statement name index s u) (run_statements name (suc index) ss) v e in
    let one = statement_tells name index s (read 0 s (omega arith)) u n.0 (omega (arith, few)) n.1 in
    omega (
      arith,
      one.size,
      statements_tell name (suc index) ss n.0 v (λ i d below. read (suc i) d (omega (arith, below))) (omega (arith, few, one.most)) n.2,
    )

-- ---- the reply

reply_size : (u : Updated) → length (spelled (ok_reply (update_reply u))) ≤ told_size u.upserted + 41
reply_size u = by (items_len u.upserted == 0) refl
  where
    ok : Pairs
    ok = pair (codes "ok") (int 1) no_pairs

    counted : (rest : Pairs)
        → length (spelled (pair (codes "n") (total u.matched) (pair (codes "nModified") (total u.modified) rest))) ≡ length (pairs_bytes rest) + 27
    counted rest =
        let modified = pair (codes "nModified") (total u.modified) rest in
        omega (
          arith,
          frame_of-length (pairs_bytes (pair (codes "n") (total u.matched) modified)),
          pairs_size-pair (codes "n") (total u.matched) modified,
          pairs_size-pair (codes "nModified") (total u.modified) rest,
          length-total u.matched,
          length-total u.modified,
        )

    ok_size : length (pairs_bytes ok) ≡ 8
    ok_size = omega (arith, pairs_size-pair (codes "ok") (int 1) no_pairs, length-int 1, ap length pairs_bytes-none)

    by : (b : Bool) → items_len u.upserted == 0 ≡ b
        → length (spelled (append (pair (codes "n") (total u.matched) (pair (codes "nModified") (total u.modified)
        (if b then no_pairs else pair (codes "upserted") (array u.upserted) no_pairs))) ok)) ≤ told_size u.upserted + 41
    by true is = omega (arith, counted ok, ok_size)
    by false is =
        omega (
          arith,
          eqb-false (items_len u.upserted) 0 is,
          counted (pair (codes "upserted") (array u.upserted) ok),
          pairs_size-pair (codes "upserted") (array u.upserted) ok,
          length-array u.upserted,
          ok_size,
        )

-- ---- the command

-- a body that spells an update
record SpellsUpdate (body : Pairs) (c : Update) : Type 0 where
  few : length c.statements ≤ 1000
  read : All (λ (s : UpdateStatement). IsRead s.change) c.statements
  size : statements_size c.statements + 36 ≤ fields_size body

module _ (name : List ℕ) (t : Tree) (ps : Pairs) (c : Update) where
  abbrev IsIt : Type 0
  IsIt = (bytes_eq name (codes "update") ≡ true) × (read_update_command t ps ≡ Ok c)

  abbrev Leads : Result Command Refusal → Type 0
  Leads r = r ≡ Ok (update c) → IsIt

  -- another command is none
  other : {X : Type 0} (make : X → Command) (read : Result X Refusal) → ((x : X) → make x ≡ update c → ⊥) → Leads (as_command make read)
  other {X} make read differs e =
      let last : X → Result Command Refusal = λ x. Ok (make x) in
      let s = step_of read last (update c) e in
      let same : make s.0 ≡ update c = cc in
      absurd (differs s.0 same)

  chosen : (b : Bool) (one later : Result Command Refusal) → (b ≡ true → Leads one) → Leads later → Leads (if b then one else later)
  chosen true one later first second e = first refl e
  chosen false one later first second e = second e

  passed_by : (b : Bool) (one later : Result Command Refusal) → Leads one → Leads later → Leads (if b then one else later)
  passed_by b one later first second = chosen b one later (λ is. first) second

  it : bytes_eq name (codes "update") ≡ true → Leads (as_command update (read_update_command t ps))
  it is e =
      let last : Update → Result Command Refusal = λ x. Ok (update x) in
      let s = step_of (read_update_command t ps) last (update c) e in
      let same : s.0 ≡ c = cc in
      (is, s.1 ∙ ap (λ (x : Update). let r : Result Update Refusal = Ok x in r) same)

  is_named : Leads (command_of (pair name t ps))
  unfolding command_of
  is_named =
      passed_by (bytes_eq name (codes "ping")) _ _ (other (λ _. ping) (read_ping t ps) (λ x e. absurd cc))
      (passed_by (bytes_eq name (codes "hello")) _ _ (other (λ _. hello) (read_hello t ps) (λ x e. absurd cc))
      (passed_by (bytes_eq name (codes "insert")) _ _ (other insert (read_insert t ps) (λ x e. absurd cc))
      (passed_by (bytes_eq name (codes "find")) _ _ (other find (read_find t ps) (λ x e. absurd cc))
      (passed_by (bytes_eq name (codes "getMore")) _ _ (other get_more (read_get_more t ps) (λ x e. absurd cc))
      (passed_by (bytes_eq name (codes "killCursors")) _ _ (other kill_cursors (read_kill_cursors t ps) (λ x e. absurd cc))
      (passed_by (bytes_eq name (codes "count")) _ _ (other count (read_count t ps) (λ x e. absurd cc))
      (passed_by (bytes_eq name (codes "delete")) _ _ (other delete (read_delete t ps) (λ x e. absurd cc))
      (chosen (bytes_eq name (codes "update")) _ _ it
      (passed_by (bytes_eq name (codes "aggregate")) _ _ (other aggregate (read_aggregate t ps) (λ x e. absurd cc))
      (passed_by (bytes_eq name (codes "create")) _ _ (other create (read_create t ps) (λ x e. absurd cc))
      (passed_by (bytes_eq name (codes "drop")) _ _ (other drop (read_drop t ps) (λ x e. absurd cc))
      (passed_by (bytes_eq name (codes "listCollections")) _ _ (other list_collections (read_list_collections t ps) (λ x e. absurd cc))
      (passed_by (bytes_eq name (codes "createIndexes")) _ _ (other create_indexes (read_create_indexes t ps) (λ x e. absurd cc))
      (passed_by (bytes_eq name (codes "dropIndexes")) _ _ (other drop_indexes (read_drop_indexes t ps) (λ x e. absurd cc))
      (passed_by (bytes_eq name (codes "listIndexes")) _ _ (other list_indexes (read_list_indexes t ps) (λ x e. absurd cc))
      (passed_by (bytes_eq name (codes "explain")) _ _ (other explain (read_explain t ps) (λ x e. absurd cc))
      (λ e. absurd cc)))))))))))))))))

none_spelled : (c : Update) → command_of no_pairs ≡ Ok (update c) → ⊥
unfolding command_of
none_spelled c e = absurd cc

is_update : (body : Pairs) (c : Update) → command_of body ≡ Ok (update c) → SpellsUpdate body c
is_update no_pairs c e = absurd (none_spelled c e)
is_update (pair name t ps) c e =
    let it = is_named name t ps c e in
    let kept = bounded (pair name t ps) (update c) e in
    let named : name ≡ codes "update" = (bytes_eq-Decides name (codes "update")).0 it.0 in
    record {
      few = kept.1;
      read = kept.2;
      size = subst (λ (n : List ℕ). statements_size c.statements + 36 ≤ field_size n t + fields_size ps) (sym named) (command_spelled t ps c it.1);
    }

pub replies_are_short : RepliesAreShort
replies_are_short body c cs u is e =
    let s = is_update body c is in
    omega (
      arith,
      reply_size u,
      statements_tell c.namespace 0 c.statements (not_updated cs) u s.read (omega (arith, s.few)) e,
      ap length (items_bytes-none 0),
      s.size,
    )

pub replies_have_room : RepliesHaveRoom
replies_have_room body c cs is room = by (run_statements c.namespace 0 c.statements (not_updated cs)) refl
  where
    by : (r : Result Updated Refusal) → run_statements c.namespace 0 c.statements (not_updated cs) ≡ r → (r >>= judged) ≡ r
    by (Err e) ran = refl
    by (Ok u) ran =
        let short : nat_lt 1048555 (length (spelled (ok_reply (update_reply u)))) ≡ false =
        grind (arith, nat_tests, replies_are_short body c cs u is ran, room) in
        ap (λ (b : Bool). unless b refusals.BSONObjectTooLarge (let r : Result Updated Refusal = Ok u in r)) short
