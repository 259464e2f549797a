use Rattle.std.proofs.Common.{drop, map}
use Rattle.entries.specs.Indexed.{NotesUpTo, edits_by, entries_at}
use Rattle.entries.proofs.edits.Edits.note_changed.Given as goal

abbrev pub invariant-keys : goal.invariant-keys
invariant-keys l =
    NotesUpTo l.fn.self (edits_by l.what (entries_at l.number l.index l.id (map (λ key. key.now) l.keys)))
    (edits_by l.what (entries_at l.number l.index l.id (map (λ key. key.now) (drop l.key-index l.keys)))) l.self
