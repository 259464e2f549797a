-- Laws of what the statements of an update write.
use Rattle.std.specs.Prelude.{◌≡◌, true, false, List, [], ◌∷◌, ◌++◌, map, is_some, Ok, All}
use Rattle.std.specs.List.{filter, list_any}
use Rattle.bson.specs.Tree.{Pairs}
use Rattle.filter.specs.Matches.{matches}
use Rattle.update_model.specs.Applying.{apply}
use Rattle.command_model.specs.Update.{UpdateStatement, IsRead}
use Rattle.entry_model.specs.Documents.{put_document}
use Rattle.entry_model.specs.LawfulState.{IsRising}
use Rattle.entry_model.specs.StateReads.{find_document}
use Rattle.entry_model.specs.Entering.{DocumentWrite}
use Rattle.database_model.specs.Documents.{key_of}
use Rattle.database_model.specs.Lawful.{IsStored}
use Rattle.database_model.specs.Merging.{is_meant, Listed, not_listed, put_each, run_each}
use Rattle.database_model.specs.Update.{spelled}
use Rattle.database_model.specs.Writes.{statement_writes, unless_refused, writes_of}

-- such as are read, over documents such as are stored
pub record AreRun (ss : List UpdateStatement) (ds : List Pairs) : Type 0 where
  pub read : All (λ (s : UpdateStatement). IsRead s.change) ss
  pub rising : IsRising ds
  pub stored : All IsStored ds

abbrev pub documents_in : List DocumentWrite → List Pairs
documents_in ws = map (λ w. w.document) ws

-- The documents after the statements have the bytes of those before with the writes put among them.
abbrev pub WritesLead : Type 0
WritesLead =
    (ss : List UpdateStatement) (ds : List Pairs) (after : Listed) → AreRun ss ds
    → run_each 0 ss (not_listed ds) ≡ Ok after
    → map spelled (put_each (documents_in (writes_of ss ds)) ds) ≡ map spelled after.documents

-- Statements write what the first of them write, and then the others over what these left.
abbrev pub WritesJoin : Type 0
WritesJoin =
    (first later : List UpdateStatement) (ds : List Pairs)
    → writes_of (first ++ later) ds
    ≡ writes_of first ds ++ unless_refused (λ l. writes_of later l.documents)
    (run_each 0 first (not_listed ds))

-- A statement that leaves each document that it matches as it is writes nothing.
abbrev pub UnchangedWriteNothing : Type 0
UnchangedWriteNothing =
    (s : UpdateStatement) (ds : List Pairs) → list_any (matches s.filter) ds ≡ true
    → All (λ d. matches s.filter d ≡ true → apply s.change 65535 d ≡ Ok d) ds
    → statement_writes s ds ≡ []

-- Each write that isn't new, one after the other, goes in the place of a document that is there.
abbrev pub AreThere : List Pairs → List DocumentWrite → Type 0
AreThere ds [] = Unit {0}
AreThere ds (w ∷ ws) = (w.is_new ≡ false → is_some (find_document ds (key_of w.document)) ≡ true)
    × AreThere (put_document w.document ds) ws

abbrev pub WritesReplace : Type 0
WritesReplace =
    (ss : List UpdateStatement) (ds : List Pairs) → AreRun ss ds → AreThere ds (writes_of ss ds)

-- What is written may be stored.
abbrev pub WritesStored : Type 0
WritesStored =
    (ss : List UpdateStatement) (ds : List Pairs) → AreRun ss ds
    → All IsStored (documents_in (writes_of ss ds))

-- The documents that no statement means make no difference.
abbrev pub WritesOfMeant : Type 0
WritesOfMeant =
    (ss : List UpdateStatement) (ds : List Pairs) → AreRun ss ds
    → writes_of ss (filter (is_meant ss) ds) ≡ writes_of ss ds
