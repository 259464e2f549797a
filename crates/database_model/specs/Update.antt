-- `update`: what its statements make of the documents of a collection, one statement after the
-- other.
use Rattle.std.specs.Prelude.{ℕ, suc, ◌-◌, ◌^◌, Bool, true, false, not, ◌&&◌, ◌==◌, nat_le, nat_lt}
use Rattle.std.specs.Prelude.{if◌then◌else◌, List, [], ◌∷◌, ◌++◌, length, codes, is_some, Option}
use Rattle.std.specs.Prelude.{Some, None, Result, Ok}
use Rattle.std.specs.Str.{bytes_eq}
use Rattle.bson.specs.Tree.{Tree, document, array, Pairs, no_pairs, pair, Items, no_items, item}
use Rattle.bson.specs.Tree.{append_items}
use Rattle.bson.specs.Edits.{items_len}
use Rattle.bson.specs.Spelling.{frame_of, pairs_bytes}
use Rattle.filter.specs.Matches.{matches}
use Rattle.update_model.specs.Applying.{apply}
use Rattle.update_model.specs.Upserts.{base_of}
use Rattle.outcome.specs.Outcome.{◌>>=◌, unless, or_refused}
use Rattle.path.specs.declared.refusal.Refusal.{Refusal}
use Rattle.path.specs.declared.refusal.Refusal.TheVariants as refusals
use Rattle.command_model.specs.Update.{UpdateStatement}
use Rattle.database_model.specs.World.{documents_of, with_documents}
use Rattle.entry_model.specs.State.{Collection, find_collection, put_collection}
use Rattle.database_model.specs.Documents.{key_of, key_checked, place}
use Rattle.database_model.specs.Refusals.{int, total, ok_reply}

-- a count of documents, which goes up to the greatest int32
abbrev pub counted : ℕ → ℕ
counted n = if nat_lt n (2 ^ 31 - 1) then suc n else n

-- ---- the documents that match

-- What a statement has made of the documents so far: those documents, whether one of them matched,
-- and the command's counts of those that matched and of those whose bytes changed.
pub record Changed : Type 0 where
  pub documents : List Pairs
  pub found : Bool
  pub matched : ℕ
  pub modified : ℕ

abbrev pub spelled : Pairs → List ℕ
spelled ps = frame_of (pairs_bytes ps)

-- one more, where the bytes are not those from before
abbrev pub modified_by : Pairs → Pairs → ℕ → ℕ
modified_by old new n = if bytes_eq (spelled old) (spelled new) then n else counted n

-- a document that doesn't match
abbrev pub passed_over : Pairs → Changed → Changed
passed_over d so_far = record so_far { documents = so_far.documents ++ d ∷ [] }

-- a document that matches, and what is made of it
abbrev pub changed_to : Pairs → Pairs → Changed → Changed
changed_to old new so_far = record {
  documents = so_far.documents ++ new ∷ [];
  found = true;
  matched = counted so_far.matched;
  modified = modified_by old new so_far.modified;
}

-- The documents one after the other, up to the first that is refused. Without `multi` only the
-- first that matches is changed.
abbrev pub update_from : UpdateStatement → Changed → List Pairs → Result Changed Refusal
update_from s so_far [] = Ok so_far
update_from s so_far (d ∷ ds) =
    if not (matches s.filter d) then update_from s (passed_over d so_far) ds else (do
      new ← apply s.change 65535 d
      if s.multi then update_from s (changed_to d new so_far) ds else
          (let last = changed_to d new so_far in
          Ok (record last { documents = last.documents ++ ds })))

-- ---- one statement

-- What the statements have come to so far: the collections, the counts of documents that matched
-- (or were made) and of documents whose bytes changed, and what the reply says of each document
-- that was made.
pub record Updated : Type 0 where
  pub collections : List Collection
  pub matched : ℕ
  pub modified : ℕ
  pub upserted : Items

abbrev pub not_updated : List Collection → Updated
not_updated collections =
    record { collections = collections; matched = 0; modified = 0; upserted = no_items }

-- no document looked at yet
abbrev pub not_changed : Updated → Changed
not_changed u =
    record { documents = []; found = false; matched = u.matched; modified = u.modified }

-- the collections with these documents in one that is there
abbrev pub changed_in : Option Collection → List Pairs → List Collection → List Collection
changed_in None documents cs = cs
changed_in (Some c) documents cs = put_collection (record c { documents = documents }) cs

abbrev pub updated_to : List ℕ → Updated → Changed → Updated
updated_to name u changed = record u {
  collections =
      changed_in (find_collection u.collections name) changed.documents u.collections;
  matched = changed.matched;
  modified = changed.modified;
}

-- the document that an upsert makes: the filter's equalities, changed
abbrev pub upsert_document : UpdateStatement → Result Pairs Refusal
upsert_document s = do
  base ← base_of s.filter
  new ← apply s.change 65535 base
  key ← key_checked (key_of new)
  Ok new

-- what the reply says of a document that the statement of an index made
abbrev pub upserted_entry : ℕ → Tree → Pairs
upserted_entry index id = pair (codes "index") (int index) (pair (codes "_id") id no_pairs)

abbrev pub with_upserted : List ℕ → ℕ → Pairs → List Pairs → Updated → Updated
with_upserted name index new stored u = record {
  collections =
      put_collection (with_documents u.collections name stored) u.collections;
  matched = counted u.matched;
  modified = u.modified;
  upserted =
      append_items u.upserted (item (document (upserted_entry index (key_of new))) no_items);
}

-- a missing collection is made, where there are not 1,000 yet
abbrev pub upsert : List ℕ → ℕ → UpdateStatement → Updated → Result Updated Refusal
upsert name index s u =
    unless (nat_le 1000 (length u.collections)
    && not (is_some (find_collection u.collections name))) refusals.TooMany (do
      new ← upsert_document s
      stored ← or_refused (place (key_of new) new (documents_of u.collections name))
          refusals.DuplicateKey
      Ok (with_upserted name index new stored u))

abbrev pub run_statement : List ℕ → ℕ → UpdateStatement → Updated → Result Updated Refusal
run_statement name index s u = do
  changed ← update_from s (not_changed u) (documents_of u.collections name)
  if not changed.found && s.upsert then upsert name index s u else Ok (updated_to name u changed)

-- ---- the command

-- the statements from an index on
abbrev pub run_statements : List ℕ → ℕ → List UpdateStatement → Updated → Result Updated Refusal
run_statements name index [] u = Ok u
run_statements name index (s ∷ ss) u = do
  next ← run_statement name index s u
  run_statements name (suc index) ss next

-- named only where a document was made
abbrev pub upserted_pairs : Items → Pairs
upserted_pairs ts =
    if items_len ts == 0 then no_pairs else pair (codes "upserted") (array ts) no_pairs

abbrev pub counts_reply : ℕ → ℕ → Items → Pairs
counts_reply matched modified upserted =
    pair (codes "n") (total matched)
    (pair (codes "nModified") (total modified) (upserted_pairs upserted))

abbrev pub update_reply : Updated → Pairs
update_reply u = counts_reply u.matched u.modified u.upserted

-- a reply has room in a message
abbrev pub judged : Updated → Result Updated Refusal
judged u =
    unless (nat_lt 1048555 (length (spelled (ok_reply (update_reply u)))))
    refusals.BSONObjectTooLarge (Ok u)

-- all statements, or the first refusal
abbrev pub run_all : List ℕ → List UpdateStatement → List Collection → Result Updated Refusal
run_all name ss cs = do
  u ← run_statements name 0 ss (not_updated cs)
  judged u
