-- A command that was read has a namespace and documents within their limits.
use Rattle.std.proofs.Common.{◌≡◌, ℕ, ℤ, ◌≤◌, Bool, true, false, List, length}
use Rattle.std.proofs.Common.{Option, Some, None, Result, Ok, Err, ap, subst, arith}
use Rattle.std.specs.Prelude.{◌||◌, All, ◌==◌, nat_lt, if◌then◌else◌, codes, IfOk}
use Rattle.std.specs.Str.{bytes_eq}
use Rattle.std.specs.List.{list_any}
use Rattle.std.proofs.lemmas.Bool.{ltb-false, eqb-false}
use Rattle.bson.specs.Tree.{Tree, Pairs, no_pairs, pair, Items}
use Rattle.bson.specs.Edits.{items_len}
use Rattle.outcome.specs.Outcome.{◌>>=◌, unless, or_refused, Gives}
use Rattle.path.specs.declared.refusal.Refusal.{Refusal}
use Rattle.path.specs.declared.refusal.Refusal.TheVariants as refusals
use Rattle.command_model.specs.OutcomeLaws.{step_of, passed}
use Rattle.command_model.specs.FieldsLaws.{each_has, fields_keep, first_false, later_false, there}
use Rattle.command_model.specs.Values.{text_in, items_of, document_in, spelled_in, id_in}
use Rattle.command_model.specs.Fields.{CommonFields, read_fields, common_field, no_common}
use Rattle.command_model.specs.Statements.{statements_in, some_in, each_of}
use Rattle.command_model.specs.Names.{is_bad_byte, is_bad_database}
use Rattle.command_model.specs.Names.{namespace_of}
use Rattle.command_model.specs.Ping.{read_ping}
use Rattle.command_model.specs.Hello.{read_hello}
use Rattle.command_model.specs.Insert.{Insert, no_insert_fields}
use Rattle.command_model.specs.Insert.{insert_field, read_insert}
use Rattle.command_model.specs.Find.{Find, no_find_fields, find_field, query_of, read_find}
use Rattle.command_model.specs.GetMore.{GetMore, no_get_more_fields, get_more_field, read_get_more}
use Rattle.command_model.specs.KillCursors.{KillCursors, KillCursorsFields, no_kill_cursors_fields}
use Rattle.command_model.specs.KillCursors.{ids_in, kill_cursors_field, read_kill_cursors}
use Rattle.command_model.specs.Count.{read_count}
use Rattle.command_model.specs.Delete.{read_delete}
use Rattle.command_model.specs.Update.{Update, UpdateFields}
use Rattle.command_model.specs.Update.{no_update_fields, update_field}
use Rattle.command_model.specs.Update.{read_update_command}
use Rattle.command_model.specs.Aggregate.{Aggregate, no_aggregate_fields, aggregate_field}
use Rattle.command_model.specs.Aggregate.{read_aggregate}
use Rattle.command_model.specs.Alone.{read_alone}
use Rattle.command_model.specs.Create.{Create, read_create}
use Rattle.command_model.specs.DropCollection.{DropCollection, read_drop}
use Rattle.command_model.specs.ListCollections.{ListCollections, read_list_collections}
use Rattle.command_model.specs.NewIndex.{IsShortNewIndex, NewIndex, read_new_index}
use Rattle.command_model.specs.NewIndexLaws.{new_index_short}
use Rattle.command_model.specs.CreateIndexes.{CreateIndexes, CreateIndexesFields}
use Rattle.command_model.specs.CreateIndexes.{no_create_indexes_fields, new_indexes_in}
use Rattle.command_model.specs.CreateIndexes.{create_indexes_field, read_create_indexes}
use Rattle.command_model.specs.DropIndexes.{DropIndexes, dropped_by, no_drop_indexes_fields}
use Rattle.command_model.specs.DropIndexes.{drop_indexes_field, read_drop_indexes}
use Rattle.command_model.specs.ListIndexes.{ListIndexes, read_list_indexes}
use Rattle.command_model.specs.Explain.{read_explain}
use Rattle.command_model.specs.Command.{Command, ping, insert, find}
use Rattle.command_model.specs.Command.{count, delete, update, aggregate}
use Rattle.command_model.specs.Command.{create, drop}
use Rattle.command_model.specs.Command.{list_collections, create_indexes, drop_indexes}
use Rattle.command_model.specs.Command.{list_indexes, explain, as_command, command_of, IsBounded}
use Rattle.command_model.specs.Command.{get_more, kill_cursors, hello}
use Rattle.command_model.specs.StatementLaws.{reads_by_field}
use Rattle.command_model.specs.StatementLaws.{short, as_many, few_items, few, few_fields, few_there}
use Rattle.command_model.specs.StatementLaws.{AreRead, ReadsAt}

-- ---- cursors

abbrev FewIds : Option (List ℤ) → Type 0
FewIds None = Unit {0}
FewIds (Some ids) = length ids ≤ 1000

few_ids : (t : Tree) (ids : List ℤ) → ids_in t ≡ Ok ids → length ids ≤ 1000
few_ids t ids e =
    let s = step_of (statements_in t) (each_of id_in) ids e in
    omega (arith, as_many id_in s.0 ids s.2, (few_items t s.0 s.1).0)

module _ (found next : KillCursorsFields) (name : List ℕ) (t : Tree)
    (h : FewIds found.cursors) where
  abbrev with_ids : List ℤ → Result KillCursorsFields Refusal
  with_ids ids = Ok (record found { cursors = Some ids })

  abbrev with_common_of : CommonFields → Result KillCursorsFields Refusal
  with_common_of common = Ok (record found { common = common })

  few_by_field : (b : Bool)
      → (if b then (ids_in t >>= with_ids)
      else (common_field found.common name t >>= with_common_of)) ≡ Ok next → FewIds next.cursors
  few_by_field true e =
      let s = step_of (ids_in t) with_ids next e in
      let same : record found { cursors = Some s.0 } ≡ next = cc in
      subst (λ (f : KillCursorsFields). FewIds f.cursors) same (few_ids t s.0 s.1)
  few_by_field false e =
      let s = step_of (common_field found.common name t) with_common_of next e in
      let same : record found { common = s.0 } ≡ next = cc in
      subst (λ (f : KillCursorsFields). FewIds f.cursors) same h

-- ---- indexes to be made

abbrev SomeIndexes : List NewIndex → Type 0
SomeIndexes is = (1 ≤ length is) × All IsShortNewIndex is

some_items : (t : Tree) (ts : Items) → some_in t ≡ Ok ts → 1 ≤ items_len ts
some_items t ts e =
    let s = step_of (or_refused (items_of t) refusals.TypeMismatch)
    (λ us. unless (items_len us == 0) refusals.BadValue (Ok us)) ts e in
    let q = passed (items_len s.0 == 0) refusals.BadValue (Ok s.0) ts s.2 in
    let same : s.0 ≡ ts = cc in
    omega (arith, ap items_len same, eqb-false (items_len s.0) 0 q.0)

abbrev SomeIndexesAt : Option (List NewIndex) → Type 0
SomeIndexesAt None = Unit {0}
SomeIndexesAt (Some is) = SomeIndexes is

some_indexes : (t : Tree) (is : List NewIndex) → new_indexes_in t ≡ Ok is → SomeIndexes is
some_indexes t is e =
    let s = step_of (some_in t) (each_of (spelled_in read_new_index)) is e in (
      omega (arith, as_many (spelled_in read_new_index) s.0 is s.2, some_items t s.0 s.1),
      each_has IsShortNewIndex (spelled_in read_new_index)
          (λ t i e. let d = step_of (document_in t) read_new_index i e in
          new_index_short d.0 i d.2) s.0 is s.2,
    )

module _ (found next : CreateIndexesFields) (name : List ℕ) (t : Tree)
    (h : SomeIndexesAt found.indexes) where
  abbrev with_indexes : List NewIndex → Result CreateIndexesFields Refusal
  with_indexes indexes = Ok (record found { indexes = Some indexes })

  abbrev with_common_fields : CommonFields → Result CreateIndexesFields Refusal
  with_common_fields common = Ok (record found { common = common })

  some_indexes_by_field : (b : Bool)
      → (if b then (new_indexes_in t >>= with_indexes)
      else (common_field found.common name t >>= with_common_fields)) ≡ Ok next
      → SomeIndexesAt next.indexes
  some_indexes_by_field true e =
      let s = step_of (new_indexes_in t) with_indexes next e in
      let same : record found { indexes = Some s.0 } ≡ next = cc in
      subst (λ (f : CreateIndexesFields). SomeIndexesAt f.indexes) same (some_indexes t s.0 s.1)
  some_indexes_by_field false e =
      let s = step_of (common_field found.common name t) with_common_fields next e in
      let same : record found { common = s.0 } ≡ next = cc in
      subst (λ (f : CreateIndexesFields). SomeIndexesAt f.indexes) same h

-- ---- commands

pub insert_bounded : (t : Tree) (ps : Pairs) (c : Insert) → read_insert t ps ≡ Ok c
    → (length c.namespace ≤ 255) × (length c.documents ≤ 1000) × (1 ≤ length c.documents)
insert_bounded t ps c e =
    let n = step_of (text_in t) _ c e in
    let s = step_of (read_fields insert_field no_insert_fields ps) _ c n.2 in
    let b = step_of (or_refused s.0.common.database refusals.FailedToParse) _ c s.2 in
    let d = step_of (or_refused s.0.documents refusals.FailedToParse) _ c b.2 in
    let m = step_of (namespace_of b.0 n.0) _ c d.2 in
    let made : Insert = record { namespace = m.0; documents = d.0 } in
    let same : made ≡ c = cc in
    let some = few_there s.0.documents d.0 (few_fields ps no_insert_fields s.0 tt s.1) d.1 in
    subst (λ (x : Insert). (length x.namespace ≤ 255) × (length x.documents ≤ 1000)
    × (1 ≤ length x.documents)) same (short b.0 n.0 m.0 m.1, some.0, some.1)

pub find_bounded : (t : Tree) (ps : Pairs) (c : Find) → read_find t ps ≡ Ok c
    → length c.namespace ≤ 255
find_bounded t ps c e =
    let n = step_of (text_in t) _ c e in
    let s = step_of (read_fields find_field no_find_fields ps) _ c n.2 in
    let b = step_of (or_refused s.0.common.database refusals.FailedToParse) _ c s.2 in
    let m = step_of (namespace_of b.0 n.0) _ c b.2 in
    let made : Find = record { namespace = m.0; query = query_of s.0; batch_size = s.0.batch_size }
    in
    let same : made ≡ c = cc in
    subst (λ (x : Find). length x.namespace ≤ 255) same (short b.0 n.0 m.0 m.1)

pub get_more_bounded : (t : Tree) (ps : Pairs) (c : GetMore) → read_get_more t ps ≡ Ok c
    → length c.namespace ≤ 255
get_more_bounded t ps c e =
    let i = step_of (id_in t) _ c e in
    let s = step_of (read_fields get_more_field no_get_more_fields ps) _ c i.2 in
    let b = step_of (or_refused s.0.common.database refusals.FailedToParse) _ c s.2 in
    let n = step_of (or_refused s.0.collection refusals.FailedToParse) _ c b.2 in
    let m = step_of (namespace_of b.0 n.0) _ c n.2 in
    let made : GetMore = record { id = i.0; namespace = m.0; batch_size = s.0.batch_size } in
    let same : made ≡ c = cc in
    subst (λ (x : GetMore). length x.namespace ≤ 255) same (short b.0 n.0 m.0 m.1)

pub kill_cursors_bounded : (t : Tree) (ps : Pairs) (c : KillCursors)
    → read_kill_cursors t ps ≡ Ok c → length c.cursors ≤ 1000
kill_cursors_bounded t ps c e =
    let n = step_of (text_in t) _ c e in
    let s = step_of (read_fields kill_cursors_field no_kill_cursors_fields ps) _ c n.2 in
    let b = step_of (or_refused s.0.common.database refusals.FailedToParse) _ c s.2 in
    let d = step_of (or_refused s.0.cursors refusals.FailedToParse) _ c b.2 in
    let m = step_of (namespace_of b.0 n.0) _ c d.2 in
    let made : KillCursors = record { namespace = m.0; cursors = d.0 } in
    let same : made ≡ c = cc in
    let few = fields_keep (λ (f : KillCursorsFields). FewIds f.cursors) kill_cursors_field
    (λ found next name t h e. few_by_field found next name t h (bytes_eq name (codes "cursors")) e)
    ps no_kill_cursors_fields s.0 tt s.1 in
    subst (λ (x : KillCursors). length x.cursors ≤ 1000) same
    (subst FewIds (there s.0.cursors d.0 d.1) few)

pub update_bounded : (t : Tree) (ps : Pairs) (c : Update) → read_update_command t ps ≡ Ok c
    → IsBounded (update c)
update_bounded t ps c e =
    let n = step_of (text_in t) _ c e in
    let s = step_of (read_fields update_field no_update_fields ps) _ c n.2 in
    let b = step_of (or_refused s.0.common.database refusals.FailedToParse) _ c s.2 in
    let d = step_of (or_refused s.0.statements refusals.FailedToParse) _ c b.2 in
    let m = step_of (namespace_of b.0 n.0) _ c d.2 in
    let made : Update = record { namespace = m.0; statements = d.0 } in
    let same : made ≡ c = cc in
    let read = fields_keep (λ (f : UpdateFields). ReadsAt f.statements) update_field
    (λ found next name t h e. reads_by_field found next name t h
    (bytes_eq name (codes "updates")) e) ps no_update_fields s.0 tt s.1 in
    let all : AreRead d.0 = subst ReadsAt (there s.0.statements d.0 d.1) read in
    subst (λ (x : Update). IsBounded (update x)) same (short b.0 n.0 m.0 m.1, all.few, all.each)

pub aggregate_bounded : (t : Tree) (ps : Pairs) (c : Aggregate) → read_aggregate t ps ≡ Ok c
    → length c.namespace ≤ 255
aggregate_bounded t ps c e =
    let n = step_of (text_in t) _ c e in
    let s = step_of (read_fields aggregate_field no_aggregate_fields ps) _ c n.2 in
    let b = step_of (or_refused s.0.common.database refusals.FailedToParse) _ c s.2 in
    let p = step_of (or_refused s.0.pipeline refusals.FailedToParse) _ c b.2 in
    let q = step_of (or_refused s.0.cursor refusals.FailedToParse) _ c p.2 in
    let m = step_of (namespace_of b.0 n.0) _ c q.2 in
    let made : Aggregate = record { namespace = m.0; pipeline = p.0; batch_size = q.0.batch_size }
    in
    let same : made ≡ c = cc in
    subst (λ (x : Aggregate). length x.namespace ≤ 255) same (short b.0 n.0 m.0 m.1)

alone_bounded : (t : Tree) (ps : Pairs) (namespace : List ℕ) → read_alone t ps ≡ Ok namespace
    → length namespace ≤ 255
alone_bounded t ps namespace e =
    let n = step_of (text_in t) _ namespace e in
    let s = step_of (read_fields common_field no_common ps) _ namespace n.2 in
    let b = step_of (or_refused s.0.database refusals.FailedToParse) _ namespace s.2 in
    short b.0 n.0 namespace b.2

pub create_bounded : (t : Tree) (ps : Pairs) (c : Create) → read_create t ps ≡ Ok c
    → length c.namespace ≤ 255
create_bounded t ps c e =
    let r = step_of (read_alone t ps) _ c e in
    let made : Create = record { namespace = r.0 } in
    let same : made ≡ c = cc in
    subst (λ (x : Create). length x.namespace ≤ 255) same (alone_bounded t ps r.0 r.1)

pub drop_bounded : (t : Tree) (ps : Pairs) (c : DropCollection) → read_drop t ps ≡ Ok c
    → length c.namespace ≤ 255
drop_bounded t ps c e =
    let r = step_of (read_alone t ps) _ c e in
    let made : DropCollection = record { namespace = r.0 } in
    let same : made ≡ c = cc in
    subst (λ (x : DropCollection). length x.namespace ≤ 255) same (alone_bounded t ps r.0 r.1)

pub list_collections_bounded : (t : Tree) (ps : Pairs) (c : ListCollections)
    → read_list_collections t ps ≡ Ok c → length c.database ≤ 63
list_collections_bounded t ps c e =
    let s = step_of (read_fields common_field no_common ps) _ c e in
    let b = step_of (or_refused s.0.database refusals.FailedToParse) _ c s.2 in
    let made : ListCollections = record { database = b.0 } in
    let p = passed (is_bad_database b.0) refusals.InvalidNamespace (Ok made) c b.2 in
    let same : made ≡ c = cc in
    let few = ltb-false 63 (length b.0)
    (later_false (length b.0 == 0) (nat_lt 63 (length b.0))
    (first_false (length b.0 == 0 || nat_lt 63 (length b.0)) (list_any is_bad_byte b.0) p.0)) in
    subst (λ (x : ListCollections). length x.database ≤ 63) same few

pub create_indexes_bounded : (t : Tree) (ps : Pairs) (c : CreateIndexes)
    → read_create_indexes t ps ≡ Ok c → IsBounded (create_indexes c)
create_indexes_bounded t ps c e =
    let n = step_of (text_in t) _ c e in
    let s = step_of (read_fields create_indexes_field no_create_indexes_fields ps) _ c n.2 in
    let b = step_of (or_refused s.0.common.database refusals.FailedToParse) _ c s.2 in
    let d = step_of (or_refused s.0.indexes refusals.FailedToParse) _ c b.2 in
    let m = step_of (namespace_of b.0 n.0) _ c d.2 in
    let made : CreateIndexes = record { namespace = m.0; indexes = d.0 } in
    let same : made ≡ c = cc in
    let few = fields_keep
    (λ (f : CreateIndexesFields). SomeIndexesAt f.indexes) create_indexes_field
    (λ found next name t h e. some_indexes_by_field found next name t h
    (bytes_eq name (codes "indexes")) e) ps no_create_indexes_fields s.0 tt s.1 in
    let some : SomeIndexes d.0 = subst SomeIndexesAt (there s.0.indexes d.0 d.1) few in
    subst (λ (x : CreateIndexes). IsBounded (create_indexes x)) same
    (short b.0 n.0 m.0 m.1, some.0, some.1)

pub drop_indexes_bounded : (t : Tree) (ps : Pairs) (c : DropIndexes)
    → read_drop_indexes t ps ≡ Ok c → length c.namespace ≤ 255
drop_indexes_bounded t ps c e =
    let n = step_of (text_in t) _ c e in
    let s = step_of (read_fields drop_indexes_field no_drop_indexes_fields ps) _ c n.2 in
    let b = step_of (or_refused s.0.common.database refusals.FailedToParse) _ c s.2 in
    let d = step_of (or_refused s.0.index refusals.FailedToParse) _ c b.2 in
    let m = step_of (namespace_of b.0 n.0) _ c d.2 in
    let made : DropIndexes = record { namespace = m.0; indexes = dropped_by d.0 } in
    let same : made ≡ c = cc in
    subst (λ (x : DropIndexes). length x.namespace ≤ 255) same (short b.0 n.0 m.0 m.1)

pub list_indexes_bounded : (t : Tree) (ps : Pairs) (c : ListIndexes)
    → read_list_indexes t ps ≡ Ok c → length c.namespace ≤ 255
list_indexes_bounded t ps c e =
    let r = step_of (read_alone t ps) _ c e in
    let made : ListIndexes = record { namespace = r.0 } in
    let same : made ≡ c = cc in
    subst (λ (x : ListIndexes). length x.namespace ≤ 255) same (alone_bounded t ps r.0 r.1)

-- what was read is bounded, so the command is
made_bounded : {X : Type 0} (make : X → Command) (read : Result X Refusal) (c : Command)
    → ((x : X) → read ≡ Ok x → IsBounded (make x)) → as_command make read ≡ Ok c → IsBounded c
made_bounded {X} make read c keeps e =
    let last : X → Result Command Refusal = λ x. Ok (make x) in
    let s = step_of read last c e in
    let same : make s.0 ≡ c = cc in
    subst IsBounded same (keeps s.0 s.1)

-- what is so of one reading and of another is so of the one that a name chooses
chosen_bounded : (b : Bool) (one other : Result Command Refusal) (c : Command)
    → (one ≡ Ok c → IsBounded c) → (other ≡ Ok c → IsBounded c) → (if b then one else other) ≡ Ok c
    → IsBounded c
chosen_bounded true one other c first second e = first e
chosen_bounded false one other c first second e = second e

pub bounded : (ps : Pairs) (c : Command) → command_of ps ≡ Ok c → IsBounded c
unfolding command_of
bounded no_pairs c e = absurd cc
bounded (pair name t ps) c e =
    chosen_bounded (bytes_eq name (codes "ping")) _ _ c
    (made_bounded (λ _. ping) (read_ping t ps) c (λ x h. tt))
    (chosen_bounded (bytes_eq name (codes "hello")) _ _ c
    (made_bounded (λ _. hello) (read_hello t ps) c (λ x h. tt))
    (chosen_bounded (bytes_eq name (codes "insert")) _ _ c
    (made_bounded insert (read_insert t ps) c (insert_bounded t ps))
    (chosen_bounded (bytes_eq name (codes "find")) _ _ c
    (made_bounded find (read_find t ps) c (find_bounded t ps))
    (chosen_bounded (bytes_eq name (codes "getMore")) _ _ c
    (made_bounded get_more (read_get_more t ps) c (get_more_bounded t ps))
    (chosen_bounded (bytes_eq name (codes "killCursors")) _ _ c
    (made_bounded kill_cursors (read_kill_cursors t ps) c (kill_cursors_bounded t ps))
    (chosen_bounded (bytes_eq name (codes "count")) _ _ c
    (made_bounded count (read_count t ps) c (λ x h. tt))
    (chosen_bounded (bytes_eq name (codes "delete")) _ _ c
    (made_bounded delete (read_delete t ps) c (λ x h. tt))
    (chosen_bounded (bytes_eq name (codes "update")) _ _ c
    (made_bounded update (read_update_command t ps) c (update_bounded t ps))
    (chosen_bounded (bytes_eq name (codes "aggregate")) _ _ c
    (made_bounded aggregate (read_aggregate t ps) c (aggregate_bounded t ps))
    (chosen_bounded (bytes_eq name (codes "create")) _ _ c
    (made_bounded create (read_create t ps) c (create_bounded t ps))
    (chosen_bounded (bytes_eq name (codes "drop")) _ _ c
    (made_bounded drop (read_drop t ps) c (drop_bounded t ps))
    (chosen_bounded (bytes_eq name (codes "listCollections")) _ _ c
    (made_bounded list_collections (read_list_collections t ps) c (list_collections_bounded t ps))
    (chosen_bounded (bytes_eq name (codes "createIndexes")) _ _ c
    (made_bounded create_indexes (read_create_indexes t ps) c (create_indexes_bounded t ps))
    (chosen_bounded (bytes_eq name (codes "dropIndexes")) _ _ c
    (made_bounded drop_indexes (read_drop_indexes t ps) c (drop_indexes_bounded t ps))
    (chosen_bounded (bytes_eq name (codes "listIndexes")) _ _ c
    (made_bounded list_indexes (read_list_indexes t ps) c (list_indexes_bounded t ps))
    (chosen_bounded (bytes_eq name (codes "explain")) _ _ c
    (made_bounded explain (read_explain t ps) c (λ x h. tt))
    (λ f. absurd cc))))))))))))))))) e

-- a reader that gives what was planned gives a bounded command
pub gives-bounded : {X : Type 0} (view : X → Command) (planned : Result Command Refusal)
    (r : Result X Refusal) → Gives refusals.OutOfMemory view r planned
    → ((c : Command) → planned ≡ Ok c → IsBounded c) → IfOk r (λ x. IsBounded (view x))
gives-bounded view planned (Ok x) h keeps = keeps (view x) h
gives-bounded view planned (Err e) h keeps = tt
