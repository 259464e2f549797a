use Rattle.std.proofs.Common.{drop, map}
use Rattle.entries.specs.Indexed.{NotesUpTo, entries_in_all}
use Rattle.entry_model.specs.StateEntries.{puts}
use Rattle.entries.proofs.edits.Edits.put_changes.Given as goal

abbrev pub invariant-indexes : goal.invariant-indexes
invariant-indexes l =
    NotesUpTo l.fn.self (puts (entries_in_all l.number l.id l.indexes (map (λ c. map (λ key. key.now) c.added.items) l.changes)))
    (puts (entries_in_all l.number l.id (drop l.at l.indexes) (map (λ c. map (λ key. key.now) c.added.items) (drop l.at l.changes)))) l.self
