-- What running the statements of an update does to documents in memory.
use Rattle.std.specs.Prelude.{◌≡◌, ◌≢◌, ◌≤◌, ℕ, suc, Bool, true, false, if◌then◌else◌, List, []}
use Rattle.std.specs.Prelude.{◌∷◌, ◌++◌, length, map, insert, slice_set, slice_index_or, codes}
use Rattle.std.specs.Prelude.{Option, Some, None, All, Result, Ok, Err}
use Rattle.std.specs.List.{list_any}
use Rattle.std.specs.Str.{bytes_eq}
use Rattle.bson.specs.Tree.{Pairs, no_pairs, no_items}
use Rattle.bson.specs.Lawful.{IsDocument, pairs_levels}
use Rattle.bson.specs.Lookup.{lookup}
use Rattle.bson.specs.Spelling.{frame_of, pairs_bytes}
use Rattle.filter.specs.Matches.{matches}
use Rattle.outcome.specs.Outcome.{Fails, or_refused}
use Rattle.path.specs.declared.refusal.Refusal.{Refusal}
use Rattle.path.specs.declared.refusal.Refusal.TheVariants as refusals
use Rattle.update_model.specs.Update.{Update as Change}
use Rattle.update_model.specs.Applying.{apply}
use Rattle.command_model.specs.Update.{UpdateStatement}
use Rattle.entry_model.specs.Documents.{put_document}
use Rattle.entry_model.specs.LawfulState.{IsRising, IsStorable}
use Rattle.entry_model.specs.StateReads.{find_document}
use Rattle.entry_model.specs.Entering.{DocumentWrite}
use Rattle.database_model.specs.Documents.{key_of, place}
use Rattle.database_model.specs.Lawful.{IsStored, IsWithin}
use Rattle.database_model.specs.Merging.{Listed, none_changed, not_listed, put_each, run_each}
use Rattle.database_model.specs.Update.{counted, spelled, modified_by, Changed, update_from}
use Rattle.database_model.specs.Writes.{change_writes, changes_of, statement_writes, updated_by}
use Rattle.database_model.specs.Writes.{writes_of}
use Rattle.statements.specs.declared.statements.Ran.{Ran}
use Rattle.statements.specs.declared.statements.Run.{Run}
use Rattle.statements.specs.declared.statements.Tally.{Tally}
use Rattle.statements.specs.declared.statements.Write.{Write}

-- ---- writes

abbrev pub seen : Write → DocumentWrite
seen w = record { is_new = w.is_new; document = w.new }

-- the documents that are written
abbrev pub news_of : List Write → List Pairs
news_of ws = map (λ w. w.new) ws

-- what goes where the write goes
abbrev pub replaced_in : List Pairs → Write → Option Pairs
replaced_in ds w = if w.is_new then None else find_document ds (key_of w.new)

-- Each write, one after the other, has the document in whose place it goes.
abbrev pub HaveOld : List Pairs → List Write → Type 0
HaveOld ds [] = Unit {0}
HaveOld ds (w ∷ ws) = (w.old ≡ replaced_in ds w) × HaveOld (put_document w.new ds) ws

-- What was written over these documents: it may be stored, and has what it replaces where that is
-- kept.
pub record AreWritten (keeps_old : Bool) (from : List Pairs) (ws : List Write) : Type 0 where
  pub old : keeps_old ≡ true → HaveOld from ws
  pub storable : All IsStorable (news_of ws)

-- ---- runs

-- what the statements have come to
abbrev pub listed_of : Run → Listed
listed_of r = record {
  documents = r.documents.items;
  matched = r.tally.matched;
  modified = r.tally.modified;
  upserted = r.tally.upserted;
}

-- what a statement has made of the documents
abbrev pub changed_of : Bool → Run → Changed
changed_of found r = record {
  documents = r.documents.items;
  found = found;
  matched = r.tally.matched;
  modified = r.tally.modified;
}

-- what was written so far
abbrev pub written : Run → List DocumentWrite
written r = map seen r.writes.items

-- no document was changed or made
abbrev pub HasNone : Tally → Type 0
HasNone t = (t.modified ≡ 0) × (t.upserted ≡ no_items)

abbrev pub document_at : ℕ → Run → Pairs
document_at i r = slice_index_or r.documents.items i no_pairs

-- What an update makes of a document, of which the bytes are others then.
pub record IsChange (change : Change) (old new : Pairs) : Type 0 where
  pub is : apply change 65535 old ≡ Ok new
  pub differs : bytes_eq (spelled old) (spelled new) ≡ false
  pub readable : IsDocument new

-- A document that may be stored, but for the length of its key text.
pub record MayBePut (ps : Pairs) : Type 0 where
  pub lawful : IsDocument ps
  pub size : length (frame_of (pairs_bytes ps)) ≤ 65535
  pub depth : suc (pairs_levels ps) ≤ 90
  pub key : lookup ps (codes "_id") ≡ Some (key_of ps)

-- The documents are those of the beginning with those that were written put among them.
pub record IsRunOf (from : List Pairs) (r : Run) : Type 0 where
  pub puts : put_each (news_of r.writes.items) from ≡ r.documents.items
  pub rising : IsRising r.documents.items
  pub stored : All IsStored r.documents.items
  pub written : AreWritten r.keeps_old from r.writes.items

-- A run went on.
pub record RunsOn (old new : Run) : Type 0 where
  pub within : All IsWithin new.documents.items
  pub puttable : All MayBePut (news_of old.writes.items) → All MayBePut (news_of new.writes.items)
  pub quiet : HasNone new.tally → HasNone old.tally × (new.writes.items ≡ old.writes.items)
  pub kept : new.keeps_old ≡ old.keeps_old
  pub keeps : (from : List Pairs) → IsRunOf from old → IsRunOf from new

-- It wrote these.
pub record HasWritten (ws : List DocumentWrite) (old new : Run) : Type 0 where
  pub wrote : written new ≡ written old ++ ws
  pub extends : RunsOn old new

-- It wrote these and was refused then.
pub record HasStopped (ws : List DocumentWrite) (old new : Run) : Type 0 where
  pub wrote : written new ≡ written old ++ ws
  pub puttable : All MayBePut (news_of old.writes.items) → All MayBePut (news_of new.writes.items)
  pub keeps : (from : List Pairs) → IsRunOf from old
      → AreWritten old.keeps_old from new.writes.items

-- It wrote these, to its end or to a refusal, unless memory ran out.
abbrev pub Wrote : Result (Unit {0}) Refusal → List DocumentWrite → Run → Run → Type 0
Wrote (Ok _) ws old new = HasWritten ws old new
Wrote (Err e) ws old new = e ≢ refusals.OutOfMemory → HasStopped ws old new

-- The document at a place was updated.
pub record ChangesAt (change : Change) (place : ℕ) (old new : Run) : Type 0 where
  pub made : Pairs
  pub is : apply change 65535 (document_at place old) ≡ Ok made
  pub puts : new.documents.items ≡ slice_set old.documents.items place made
  pub matched : new.tally.matched ≡ counted old.tally.matched
  pub modified : new.tally.modified
      ≡ modified_by (document_at place old) made old.tally.modified
  pub upserted : new.tally.upserted ≡ old.tally.upserted
  pub wrote : written new ≡ written old ++ change_writes (document_at place old) made
  pub extends : RunsOn old new

-- The documents that match were updated; one was found, or none.
pub record HasRun (s : UpdateStatement) (old new : Run) (found : Bool) : Type 0 where
  pub planned : update_from s (none_changed (listed_of old)) old.documents.items
      ≡ Ok (changed_of found new)
  pub none : found ≡ false → listed_of new ≡ listed_of old
  pub upserted : new.tally.upserted ≡ old.tally.upserted
  pub any : list_any (matches s.filter) old.documents.items ≡ found
  pub wrote : written new
      ≡ written old ++ changes_of s.change (updated_by s old.documents.items)
  pub extends : RunsOn old new

-- An update of one was refused.
pub record IsUpdateRefused (s : UpdateStatement) (e : Refusal) (old new : Run) : Type 0 where
  pub planned : Fails refusals.OutOfMemory e
      (update_from s (none_changed (listed_of old)) old.documents.items)
  pub writes : e ≢ refusals.OutOfMemory
      → HasStopped (statement_writes s old.documents.items) old new

abbrev pub RunsMatching : UpdateStatement → Run → Run → Result Bool Refusal → Type 0
RunsMatching s old new (Ok found) = HasRun s old new found
RunsMatching s old new (Err e) = IsUpdateRefused s e old new

-- where a document goes among others, or that one has its `_id`
abbrev pub IsPlaceOf : Pairs → List Pairs → Option ℕ → Type 0
IsPlaceOf new ds None = place (key_of new) new ds ≡ None
IsPlaceOf new ds (Some i) = (i ≤ length ds) × (place (key_of new) new ds ≡ Some (insert ds i new))

abbrev pub write_of_new : Pairs → Write
write_of_new d = record { is_new = true; old = None; new = d }

-- A document that was made was written.
abbrev pub IsMadeIn : Pairs → Run → Run → Type 0
IsMadeIn d old new = new.writes.items ≡ old.writes.items ++ write_of_new d ∷ []

-- A document was put among the others.
pub record HasInserted (d : Pairs) (old new : Run) : Type 0 where
  pub placed : place (key_of d) d old.documents.items ≡ Some new.documents.items
  pub writes : IsMadeIn d old new
  pub within : All IsWithin new.documents.items
  pub tally : new.tally ≡ old.tally
  pub kept : new.keeps_old ≡ old.keeps_old

-- Another has its `_id`.
pub record IsThere (d : Pairs) (e : Refusal) (old new : Run) : Type 0 where
  pub placed : Fails refusals.OutOfMemory e
      (or_refused (place (key_of d) d old.documents.items) refusals.DuplicateKey)
  pub writes : e ≢ refusals.OutOfMemory → IsMadeIn d old new

abbrev pub Inserts : Pairs → Result (Unit {0}) Refusal → Run → Run → Type 0
Inserts d (Ok _) old new = HasInserted d old new
Inserts d (Err e) old new = IsThere d e old new

-- What was run over these documents from the beginning.
pub record IsRun (from : List Pairs) (r : Run) : Type 0 where
  pub quiet : HasNone r.tally → r.writes.items ≡ []
  pub keeps : IsRising from → All IsStored from → IsRunOf from r

-- ---- what the statements came to

-- Statements ran to their end, with these writes and counts.
pub record IsDone (ss : List UpdateStatement) (from : List Pairs) (ws : List Write) (t : Tally)
    : Type 0 where
  pub run : Run
  pub planned : run_each 0 ss (not_listed from) ≡ Ok (listed_of run)
  pub writes : run.writes.items ≡ ws
  pub tally : run.tally ≡ t
  pub is : IsRun from run

abbrev pub EndsAs : List UpdateStatement → List Pairs → List Write → Result Tally Refusal → Type 0
EndsAs ss from ws (Ok t) = IsDone ss from ws t
EndsAs ss from ws (Err e) = run_each 0 ss (not_listed from) ≡ Err e

-- They wrote what they write over these documents, and came to their end or to a refusal.
pub record IsRan (keeps_old : Bool) (ss : List UpdateStatement) (from : List Pairs) (x : Ran)
    : Type 0 where
  pub writes : map seen x.writes.items ≡ writes_of ss from
  pub puttable : All MayBePut (news_of x.writes.items)
  pub written : IsRising from → All IsStored from → AreWritten keeps_old from x.writes.items
  pub end : EndsAs ss from x.writes.items x.end
