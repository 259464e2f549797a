-- What the statements of a write did, one after the other, and the reply that says so
-- (mongodb/specifications, server write commands): how many documents they met, which documents
-- upserts made and which statements were refused, each with the statement's index.
use Rattle.std.specs.Prelude.{ℕ, ℤ, pos, ◌+ℤ◌, Bool, ◌==◌, if◌then◌else◌, List, codes, Option, Some}
use Rattle.std.specs.Prelude.{None}
use Rattle.std.specs.Int.{w32, saturate_signed}
use Rattle.bson.specs.Tree.{Tree, scalar, document, array, int32, Pairs, no_pairs, pair, Items}
use Rattle.bson.specs.Tree.{no_items, item, append_items}
use Rattle.bson.specs.Lookup.{lookup}
use Rattle.bson.specs.Edits.{put, items_len}
use Rattle.driver_replies.specs.Fields.{int, long}
use Rattle.driver_replies.specs.Texts.{text_or_none}
use Rattle.driver_replies.specs.WriteErrors.{error_document}
use Rattle.driver_replies.specs.declared.tally.Tally.{Tally}

abbrev pub code_in : Option Tree → Option ℤ
code_in (Some (scalar (int32 z))) = Some z
code_in other = None

-- the number of the refusal that a reply is
abbrev pub refused : Pairs → Option ℤ
refused reply = code_in (lookup reply (codes "code"))

abbrev pub no_tally : Tally
no_tally = record { n = pos 0; modified = pos 0; upserted = no_items; errors = no_items }

-- a count and one more, up to what an int32 holds
abbrev pub added : ℤ → Option Tree → ℤ
added z (Some (scalar (int32 k))) = saturate_signed w32 (z +ℤ k)
added z other = z

-- the `_id` of the document that an upsert made
abbrev pub id_in : Tree → Option Tree
id_in (document ps) = lookup ps (codes "_id")
id_in other = None

abbrev pub first_id_in : Option Tree → Option Tree
first_id_in (Some (array (item t ts))) = id_in t
first_id_in other = None

abbrev pub upserted_id : Pairs → Option Tree
upserted_id reply = first_id_in (lookup reply (codes "upserted"))

abbrev pub upserted_document : ℤ → Tree → Pairs
upserted_document index id = pair (codes "index") (int index) (pair (codes "_id") id no_pairs)

abbrev pub with_upserted : ℤ → Option Tree → Items → Items
with_upserted index None ts = ts
with_upserted index (Some id) ts =
    append_items ts (item (document (upserted_document index id)) no_items)

abbrev pub with_done : ℤ → Pairs → Tally → Tally
with_done index reply tally = record {
  n = added tally.n (lookup reply (codes "n"));
  modified = added tally.modified (lookup reply (codes "nModified"));
  upserted = with_upserted index (upserted_id reply) tally.upserted;
  errors = tally.errors;
}

abbrev pub with_error : ℤ → ℤ → List ℕ → Tally → Tally
with_error index number sentence tally = record tally {
  errors =
      append_items tally.errors (item (document (error_document index number sentence)) no_items);
}

abbrev pub with_code : Option ℤ → ℤ → Pairs → Tally → Tally
with_code None index reply tally = with_done index reply tally
with_code (Some number) index reply tally =
    with_error index number (text_or_none (lookup reply (codes "errmsg"))) tally

-- with the reply to the statement of this index
abbrev pub with_reply : ℤ → Pairs → Tally → Tally
with_reply index reply tally = with_code (refused reply) index reply tally

-- an update says how many documents it changed
abbrev pub with_counts : Bool → Tally → Pairs
with_counts is_update tally = if is_update
    then pair (codes "n") (int tally.n) (pair (codes "nModified") (int tally.modified) no_pairs)
    else pair (codes "n") (int tally.n) no_pairs

-- a list that holds nothing isn't told
abbrev pub with_list : List ℕ → Items → Pairs → Pairs
with_list name ts reply = if items_len ts == 0 then reply else put reply name (array ts)

-- the reply of the whole
abbrev pub write_reply : Bool → Tally → Pairs
write_reply is_update tally =
    put (
    with_list (codes "writeErrors") tally.errors
    (with_list (codes "upserted") tally.upserted (with_counts is_update tally))
    ) (codes "ok") (long (pos 1))
