use Rattle.std.proofs.Common.{drop}
use Rattle.entries.specs.Indexed.{NotesUpTo, edits_by, entries_at}
use Rattle.index.specs.View.{texts_of}
use Rattle.entries.proofs.edits.Edits.note_keys.Given as goal

abbrev pub invariant-keys : goal.invariant-keys
invariant-keys l =
    NotesUpTo l.fn.self (edits_by l.what (entries_at l.number l.index l.id (texts_of l.keys)))
    (edits_by l.what (entries_at l.number l.index l.id (texts_of (drop l.key-index l.keys)))) l.self
