-- What the statements of an update write: the documents that they change or make, in order, up to
-- the first that is refused.
use Rattle.std.specs.Prelude.{ℕ, suc, true, false, if◌then◌else◌, List, [], ◌∷◌, ◌++◌, map, take}
use Rattle.std.specs.Prelude.{Result, Ok, Err}
use Rattle.std.specs.List.{filter, list_any}
use Rattle.std.specs.Str.{bytes_eq}
use Rattle.bson.specs.Tree.{Pairs}
use Rattle.filter.specs.Matches.{matches}
use Rattle.update_model.specs.Applying.{apply}
use Rattle.update_model.specs.Update.{Update as Change}
use Rattle.command_model.specs.Update.{UpdateStatement}
use Rattle.entry_model.specs.Entering.{DocumentWrite}
use Rattle.database_model.specs.Merging.{Listed, made_of, not_listed, run_listed}
use Rattle.database_model.specs.Update.{spelled}

abbrev pub made_write : Pairs → DocumentWrite
made_write d = record { is_new = true; document = d }

-- a document that has other bytes than before
abbrev pub change_writes : Pairs → Pairs → List DocumentWrite
change_writes old new =
    if bytes_eq (spelled old) (spelled new) then []
    else record { is_new = false; document = new } ∷ []

-- what a value that isn't refused writes
abbrev pub unless_refused : {X E : Type 0} → (X → List DocumentWrite) → Result X E
    → List DocumentWrite
unless_refused writes (Ok x) = writes x
unless_refused writes (Err e) = []

-- these documents changed, one after the other
abbrev pub changes_of : Change → List Pairs → List DocumentWrite
changes_of u [] = []
changes_of u (d ∷ ds) =
    unless_refused (λ new. change_writes d new ++ changes_of u ds) (apply u 65535 d)

-- all that match, or the first
abbrev pub updated_by : UpdateStatement → List Pairs → List Pairs
updated_by s ds =
    let matching = filter (matches s.filter) ds in
    if s.multi then matching else take 1 matching

-- a statement changes documents that match, or makes one where none matches
abbrev pub statement_writes : UpdateStatement → List Pairs → List DocumentWrite
statement_writes s ds =
    if list_any (matches s.filter) ds then changes_of s.change (updated_by s ds)
    else map made_write (made_of s)

-- the statements from an index on, each over what those before it left
abbrev pub writes_from : ℕ → List UpdateStatement → Listed → List DocumentWrite
writes_from index [] l = []
writes_from index (s ∷ ss) l =
    statement_writes s l.documents
    ++ unless_refused (writes_from (suc index) ss) (run_listed index s l)

abbrev pub writes_of : List UpdateStatement → List Pairs → List DocumentWrite
writes_of ss ds = writes_from 0 ss (not_listed ds)
