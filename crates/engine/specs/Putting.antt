-- What an update puts into the file: clauses of private functions.
use Rattle.std.specs.Prelude.{◌≡◌, ◌⊎◌, ◌≤◌, ◌<◌, ℕ, Bool, true, false, not, is_some, List, [], ◌∷◌}
use Rattle.std.specs.Prelude.{◌-◌, ◌^◌, length, map, take, Option, Some, None, Result, Ok, Err}
use Rattle.std.specs.Prelude.{MatchResult}
use Rattle.std.specs.List.{filter}
use Rattle.bson.specs.Tree.{Pairs, no_items}
use Rattle.page.specs.History.{History, KeepsWord}
use Rattle.tree_model.specs.Keys.{Edit}
use Rattle.path.specs.declared.refusal.Refusal.{Refusal}
use Rattle.path.specs.declared.refusal.Refusal.TheVariants as refusals
use Rattle.collections.specs.Calls.{HasReadCause}
use Rattle.command_model.specs.Update.{UpdateStatement}
use Rattle.entry_model.specs.Documents.{put_document}
use Rattle.entry_model.specs.LawfulState as states
use Rattle.entry_model.specs.LawfulState.{IsStorable}
use Rattle.entry_model.specs.State.{Collection, find_collection}
use Rattle.entry_model.specs.StateEntries.{Leads}
use Rattle.engine.specs.Durable.{disk_history, file_of}
use Rattle.engine.specs.Looking.{OnlyReads}
use Rattle.database_model.specs.Merging.{is_meant, made_of, makes_any}
use Rattle.database_model.specs.Refusals.{ok_reply}
use Rattle.engine.specs.Storing.{IsReplacedIn}
use Rattle.database_model.specs.Update.{Updated, counts_reply, not_updated, run_all, run_statements}
use Rattle.database_model.specs.Update.{spelled, update_reply}
use Rattle.database_model.specs.UpdateCommand.{writes_in, written_in}
use Rattle.statements.specs.Updating.{seen}
use Rattle.engine.specs.View.{world}
use Rattle.database_model.specs.World.{documents_of, unused}
use Rattle.engine.specs.declared.engine.Engine.{Engine}
use Rattle.statements.specs.declared.statements.Ran.{Ran}
use Rattle.statements.specs.declared.statements.Tally.{Tally}
use Rattle.statements.specs.declared.statements.Write.{Write}
use Rattle.engine.specs.declared.updates.Candidates.{Candidates}

-- the number of a collection that is made is one of a collection's
abbrev pub HasNumber : Bool → ℕ → Type 0
HasNumber is_new number = is_new ≡ true → (1 ≤ number) × (number ≤ 1000)

-- ---- the documents that are meant

-- The only statement changes one document, and makes none.
abbrev pub ChangesFirst : List UpdateStatement → Type 0
ChangesFirst [] = ⊥
ChangesFirst (s ∷ []) = (s.multi ≡ false) × (made_of s ≡ [])
ChangesFirst (s ∷ t ∷ ss) = ⊥

-- So many first ones of the documents that the statements may mean are enough: all, or one.
abbrev pub FirstAreEnough : List UpdateStatement → ℕ → Type 0
FirstAreEnough ss most = (most ≡ 2 ^ 64 - 1) ⊎ ((most ≡ 1) × ChangesFirst ss)

-- of these documents, all that the statements may mean, or the first where it is enough
abbrev pub AreMeantOf : List UpdateStatement → List Pairs → List Pairs → Type 0
AreMeantOf ss ds found = (found ≡ filter (is_meant ss) ds)
    ⊎ (ChangesFirst ss × (found ≡ take 1 (filter (is_meant ss) ds)))

-- These are the documents that the statements may mean in a collection that is there, or in one
-- that is missing.
abbrev pub MeansIn : Option Collection → List Collection → List UpdateStatement → Candidates
    → Type 0
MeansIn (Some c) now ss m = (m.is_new ≡ false) × (c.number ≡ m.number)
    × AreMeantOf ss c.documents m.documents.items
MeansIn None now ss m = (m.documents.items ≡ []) × (m.is_new ≡ makes_any ss)
    × (m.is_new ≡ true → (length now < 1000) × (m.number ≡ unused now))

abbrev pub IsMeant : List Collection → List ℕ → List UpdateStatement → Candidates → Type 0
IsMeant now name ss m = MeansIn (find_collection now name) now ss m

-- a statement makes a document, and a collection for it would be one too many
abbrev pub IsFullWithout : List Collection → List UpdateStatement → Refusal → Type 0
IsFullWithout now ss e = (e ≡ refusals.TooMany) × (makes_any ss ≡ true) × (1000 ≤ length now)

abbrev pub IsFullFor : List Collection → List ℕ → List UpdateStatement → Refusal → Type 0
IsFullFor now name ss e = (find_collection now name ≡ None) × IsFullWithout now ss e

-- ---- what is written

-- It goes in the place of the document that it keeps, or of none, and may be stored.
pub record IsWriteOf (ds : List Pairs) (w : Write) : Type 0 where
  pub kind : w.is_new ≡ not (is_some w.old)
  pub there : IsReplacedIn w.old w.new ds
  pub storable : IsStorable w.new

-- so each of them does, one after the other
abbrev pub AreWritesOf : List Pairs → List Write → Type 0
AreWritesOf ds [] = Unit {0}
AreWritesOf ds (w ∷ ws) = IsWriteOf ds w × AreWritesOf (put_document w.new ds) ws

-- the reply that says these counts
abbrev pub says : Tally → Pairs
says t = ok_reply (counts_reply t.matched t.modified t.upserted)

-- The statements came to these counts, and where none was changed or made, nothing is written.
pub record ComesTo (now : List Collection) (name : List ℕ) (ss : List UpdateStatement)
    (ws : List Write)
    (t : Tally) : Type 0 where
  pub after : Updated
  pub planned : run_statements name 0 ss (not_updated now) ≡ Ok after
  pub counts : update_reply after ≡ counts_reply t.matched t.modified t.upserted
  pub quiet : after.modified ≡ 0 → after.upserted ≡ no_items → ws ≡ []

abbrev pub EndsIn : List Collection → List ℕ → List UpdateStatement → List Write
    → Result Tally Refusal
    → Type 0
EndsIn now name ss ws (Ok t) = ComesTo now name ss ws t
EndsIn now name ss ws (Err e) = run_all name ss now ≡ Err e

-- What an update writes, and what it comes to, are those that are planned.
pub record IsUpdate (now : List Collection) (name : List ℕ) (ss : List UpdateStatement)
    (x : Ran) : Type 0 where
  pub planned : map seen x.writes.items ≡ writes_in name ss now
  pub writes : AreWritesOf (documents_of now name) x.writes.items
  pub end : EndsIn now name ss x.writes.items x.end

-- the reply of counts, or why there is none
abbrev pub RepliesTo : Result Tally Refusal → Result Pairs Refusal → Type 0
RepliesTo (Err e) result = result ≡ Err e
RepliesTo (Ok t) (Ok d) = (d ≡ says t) × (length (spelled d) ≤ 1048555)
RepliesTo (Ok t) (Err e) = (e ≡ refusals.OutOfMemory)
    ⊎ ((e ≡ refusals.BSONObjectTooLarge) × (1048555 < length (spelled (says t))))

-- ---- edits

-- The edits lead to the collections that are planned.
pub record ArePlanned (edits : List Edit) (cs : List Collection)
    (planned : Result (List Collection) Refusal)
    : Type 0 where
  pub next : List Collection
  pub is : planned ≡ Ok next
  pub leads : states.IsLawfulState cs → Leads edits cs next × states.IsLawfulState next

-- While the disk keeps its word: where these are writes of the collection of the name, the edits
-- that write them are made, or the refusal was planned, or it has its cause.
pub record NotesWrites {D : Type 0} (history : D → History) (name : List ℕ) (ws : List Write)
    (result : Result (List Edit) Refusal) (old new : Engine D) : Type 0 where
  pub reads : OnlyReads history old new
  pub answers : KeepsWord (disk_history history new)
      → AreWritesOf (documents_of (world old).collections name) ws
      → MatchResult result
      (λ edits. ArePlanned edits (world old).collections
      (written_in name (map seen ws) (world old).collections))
      (λ e. (written_in name (map seen ws) (world old).collections ≡ Err e)
      ⊎ HasReadCause history (file_of old) (file_of new) e)
