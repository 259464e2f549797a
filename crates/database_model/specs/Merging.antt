-- The documents that the statements of a command may mean, among all of a collection, and what
-- updates make of a list of documents.
use Rattle.std.specs.Prelude.{ℕ, suc, Bool, false, not, ◌&&◌, ◌||◌, if◌then◌else◌, List, [], ◌∷◌}
use Rattle.std.specs.Prelude.{◌++◌, Result, Ok, Err}
use Rattle.std.specs.List.{list_any}
use Rattle.std.specs.Ordering.{is_eq}
use Rattle.bson.specs.Tree.{document, Pairs, Items, no_items, item, append_items}
use Rattle.filter.specs.Matches.{matches}
use Rattle.value_order.specs.Order.{compare}
use Rattle.outcome.specs.Outcome.{◌>>=◌, or_refused}
use Rattle.path.specs.declared.refusal.Refusal.{Refusal}
use Rattle.path.specs.declared.refusal.Refusal.TheVariants as refusals
use Rattle.command_model.specs.Delete.{Deletion}
use Rattle.command_model.specs.Update.{UpdateStatement}
use Rattle.entry_model.specs.Documents.{put_document}
use Rattle.entry_model.specs.State.{Collection, put_collection}
use Rattle.database_model.specs.Documents.{key_of, place}
use Rattle.database_model.specs.Update.{counted, Changed, update_from, Updated, upsert_document}
use Rattle.database_model.specs.Update.{upserted_entry}

-- ---- the documents that are meant

-- a statement of a delete matches it
abbrev pub is_deleted : List Deletion → Pairs → Bool
is_deleted deletions ps = list_any (λ d. matches d.filter ps) deletions

-- a statement of an update matches it
abbrev pub is_updated : List UpdateStatement → Pairs → Bool
is_updated ss ps = list_any (λ s. matches s.filter ps) ss

abbrev pub one_or_none : {X E : Type 0} → Result X E → List X
one_or_none (Ok x) = x ∷ []
one_or_none (Err e) = []

-- the document that a statement makes where none matches
abbrev pub made_of : UpdateStatement → List Pairs
made_of s = if s.upsert then one_or_none (upsert_document s) else []

abbrev pub made_by : List UpdateStatement → List Pairs
made_by [] = []
made_by (s ∷ ss) = made_of s ++ made_by ss

-- one of these has its `_id`
abbrev pub has_key_of : List Pairs → Pairs → Bool
has_key_of ds ps = list_any (λ d. is_eq (compare (key_of d) (key_of ps))) ds

-- a statement matches it, or it has the `_id` of one of these
abbrev pub is_meant_by : List UpdateStatement → List Pairs → Pairs → Bool
is_meant_by ss made ps = is_updated ss ps || has_key_of made ps

-- a statement of an update may mean it
abbrev pub is_meant : List UpdateStatement → Pairs → Bool
is_meant ss ps = is_meant_by ss (made_by ss) ps

-- ---- updates of a list of documents

-- the documents with these put among them, one after the other
abbrev pub put_each : List Pairs → List Pairs → List Pairs
put_each [] ds = ds
put_each (new ∷ rest) ds = put_each rest (put_document new ds)

-- What the statements have come to so far: the documents, and the counts and the made ones that the
-- reply says.
pub record Listed : Type 0 where
  pub documents : List Pairs
  pub matched : ℕ
  pub modified : ℕ
  pub upserted : Items

abbrev pub not_listed : List Pairs → Listed
not_listed ds = record { documents = ds; matched = 0; modified = 0; upserted = no_items }

-- no document looked at yet
abbrev pub none_changed : Listed → Changed
none_changed l =
    record { documents = []; found = false; matched = l.matched; modified = l.modified }

abbrev pub listed_to : Listed → Changed → Listed
listed_to l changed = record {
  documents = changed.documents;
  matched = changed.matched;
  modified = changed.modified;
  upserted = l.upserted;
}

abbrev pub with_listed : ℕ → Pairs → List Pairs → Listed → Listed
with_listed index new stored l = record {
  documents = stored;
  matched = counted l.matched;
  modified = l.modified;
  upserted =
      append_items l.upserted (item (document (upserted_entry index (key_of new))) no_items);
}

abbrev pub upsert_listed : ℕ → UpdateStatement → Listed → Result Listed Refusal
upsert_listed index s l = do
  new ← upsert_document s
  stored ← or_refused (place (key_of new) new l.documents) refusals.DuplicateKey
  Ok (with_listed index new stored l)

abbrev pub run_listed : ℕ → UpdateStatement → Listed → Result Listed Refusal
run_listed index s l = do
  changed ← update_from s (none_changed l) l.documents
  if not changed.found && s.upsert then upsert_listed index s l else Ok (listed_to l changed)

-- the statements from an index on
abbrev pub run_each : ℕ → List UpdateStatement → Listed → Result Listed Refusal
run_each index [] l = Ok l
run_each index (s ∷ ss) l = do
  next ← run_listed index s l
  run_each (suc index) ss next

-- ---- in their collection

-- a statement makes a document where none matches
abbrev pub makes_any : List UpdateStatement → Bool
makes_any ss = list_any (λ s. s.upsert) ss

-- the collections with these documents in one, and the counts
abbrev pub listed_in : Collection → List Collection → Listed → Updated
listed_in c cs l = record {
  collections = put_collection (record c { documents = l.documents }) cs;
  matched = l.matched;
  modified = l.modified;
  upserted = l.upserted;
}
