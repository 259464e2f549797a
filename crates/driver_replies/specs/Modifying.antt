-- A findAndModify (MongoDB manual, findAndModify): the first document is found, it is changed or
-- deleted by its `_id`, and where the new one is wanted that is found. Nobody else asks the
-- database between them.
use Rattle.std.specs.Prelude.{ℕ, pos, Bool, true, false, not, nat_lt, if◌then◌else◌, List}
use Rattle.std.specs.Prelude.{codes, Option, Some, None}
use Rattle.bson.specs.Tree.{Tree, scalar, null, document, array, Pairs, no_pairs, pair, append}
use Rattle.bson.specs.Tree.{no_items, item}
use Rattle.bson.specs.Lawful.{pairs_levels}
use Rattle.bson.specs.Lookup.{lookup}
use Rattle.driver_replies.specs.Fields.{int, words, truth, ok}
use Rattle.driver_replies.specs.Tallies.{upserted_id}
use Rattle.driver_replies.specs.Writes.{field_of, is_true, is_upsert, fresh_id, with_id}
use Rattle.driver_replies.specs.declared.fresh_ids.FreshIds.{FreshIds}
use Rattle.driver_replies.specs.declared.modifying.Modification.{Modification}
use Rattle.driver_replies.specs.declared.writes.Write.{Write}
use Rattle.driver_replies.specs.declared.writes.Write.TheVariants as writes

-- ---- parts of a command

-- A part of a command is nested no deeper than documents that are stored.
abbrev pub part_of : Pairs → Option Pairs
part_of ps = if nat_lt 90 (pairs_levels ps) then None else Some ps

abbrev pub part_in : Option Tree → Option Pairs
part_in (Some (document ps)) = part_of ps
part_in other = None

-- what isn't said is empty
abbrev pub or_empty : Option Pairs → Pairs
or_empty None = no_pairs
or_empty (Some ps) = ps

-- what a findAndModify asks for
abbrev pub modification_of : FreshIds → Pairs → Modification
modification_of ids body = record {
  filter = or_empty (part_in (lookup body (codes "query")));
  update = or_empty (part_in (lookup body (codes "update")));
  is_removal = is_true (lookup body (codes "remove"));
  wants_new = is_true (lookup body (codes "new"));
  may_insert = is_true (lookup body (codes "upsert"));
  ids = ids;
}

-- ---- what is asked

-- a find of one document
abbrev pub find_one : List ℕ → List ℕ → Pairs → Pairs
find_one database collection filter =
    pair (codes "find") (words collection)
    (pair (codes "filter") (document filter)
    (pair (codes "limit") (int (pos 1))
    (pair (codes "$db") (words database) no_pairs)))

abbrev pub with_sort : Option Pairs → Pairs → Pairs
with_sort None command = command
with_sort (Some sort) command = append command (pair (codes "sort") (document sort) no_pairs)

-- the find of the first document
abbrev pub find_first : List ℕ → List ℕ → Pairs → Pairs
find_first database collection body =
    with_sort (part_in (lookup body (codes "sort")))
    (find_one database collection (or_empty (part_in (lookup body (codes "query")))))

abbrev pub by_id : Tree → Pairs
by_id id = pair (codes "_id") id no_pairs

abbrev pub subject_by : Option Tree → Option Pairs
subject_by None = None
subject_by (Some id) = part_of (by_id id)

-- what finds a document by its `_id`
abbrev pub subject_of : Pairs → Option Pairs
subject_of ps = subject_by (lookup ps (codes "_id"))

-- what finds the document that an upsert made
abbrev pub made_by : Pairs → Option Pairs
made_by reply = subject_by (upserted_id reply)

abbrev pub write_name : Write → List ℕ
write_name writes.Insert = codes "insert"
write_name writes.Update = codes "update"
write_name writes.Delete = codes "delete"

-- a write of one statement
abbrev pub write_one : Write → List ℕ → List ℕ → Pairs → Pairs
write_one write database collection statement =
    pair (write_name write) (words collection)
    (pair (field_of write) (array (item (document statement) no_items))
    (pair (codes "$db") (words database) no_pairs))

abbrev pub removal : Pairs → Pairs
removal subject = pair (codes "q") (document subject) (pair (codes "limit") (int (pos 1)) no_pairs)

abbrev pub replacement : Pairs → Pairs → Pairs
replacement subject update =
    pair (codes "q") (document subject) (pair (codes "u") (document update) no_pairs)

-- what changes the document that was found
abbrev pub change_one : List ℕ → List ℕ → Modification → Pairs → Pairs
change_one database collection m subject =
    if m.is_removal
    then write_one writes.Delete database collection (removal subject)
    else write_one writes.Update database collection (replacement subject m.update)

abbrev pub upsert_of : Modification → Pairs
upsert_of m = append (replacement m.filter m.update) (pair (codes "upsert") (truth true) no_pairs)

-- An upsert that says no `_id` gets a fresh one.
abbrev pub asked_upsert : Modification → Pairs
asked_upsert m =
    if is_upsert (upsert_of m) then with_id (fresh_id m.ids) (upsert_of m) else upsert_of m

-- What is asked where no document was found: an upsert, or the update as it is, which changes
-- nothing, and is refused where it is none.
abbrev pub update_none : List ℕ → List ℕ → Modification → Pairs
update_none database collection m =
    write_one writes.Update database collection
    (if m.may_insert then asked_upsert m else replacement m.filter m.update)

-- ---- what is answered

-- what was done where no document was found
abbrev pub nothing_done : Modification → Pairs
nothing_done m =
    if m.is_removal then pair (codes "n") (int (pos 0)) no_pairs else
    pair (codes "n") (int (pos 0)) (pair (codes "updatedExisting") (truth false) no_pairs)

abbrev pub with_upserted : Bool → Option Tree → Pairs → Pairs
with_upserted true (Some id) done = append done (pair (codes "upserted") id no_pairs)
with_upserted is_new id done = done

-- what was done with the document that this finds, which may be a new one
abbrev pub done_with : Bool → Bool → Pairs → Pairs
done_with is_removal is_new subject =
    if is_removal then pair (codes "n") (int (pos 1)) no_pairs else
    with_upserted is_new (lookup subject (codes "_id"))
    (pair (codes "n") (int (pos 1))
    (pair (codes "updatedExisting") (truth (not is_new)) no_pairs))

abbrev pub value_of : Option Pairs → Tree
value_of None = scalar null
value_of (Some ps) = document ps

abbrev pub modified_reply : Pairs → Option Pairs → Pairs
modified_reply done value =
    pair (codes "lastErrorObject") (document done) (pair (codes "value") (value_of value) ok)
