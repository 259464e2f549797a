use Rattle.std.proofs.Common.{drop, map}
use Rattle.entries.specs.Indexed.{NotesUpTo, edits_by, entries_in_all}
use Rattle.index.specs.View.{texts_of}
use Rattle.entries.proofs.edits.Edits.note_in_indexes.Given as goal

abbrev pub invariant-indexes : goal.invariant-indexes
invariant-indexes l =
    NotesUpTo l.fn.self (edits_by l.what (entries_in_all l.number l.id l.indexes (map (λ ks. texts_of ks.items) l.keys)))
    (edits_by l.what (entries_in_all l.number l.id (drop l.at l.indexes) (map (λ ks. texts_of ks.items) (drop l.at l.keys)))) l.self
