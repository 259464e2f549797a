use Rattle.std.proofs.Common.{drop, map}
use Rattle.entries.specs.Indexed.{NotesUpTo, entries_in_all}
use Rattle.entry_model.specs.StateEntries.{removals}
use Rattle.entries.proofs.edits.Edits.remove_changes.Given as goal

abbrev pub invariant-indexes : goal.invariant-indexes
invariant-indexes l =
    NotesUpTo l.fn.self (removals (entries_in_all l.number l.id l.indexes (map (λ c. map (λ key. key.now) c.removed.items) l.changes)))
    (removals (entries_in_all l.number l.id (drop l.at l.indexes) (map (λ c. map (λ key. key.now) c.removed.items) (drop l.at l.changes)))) l.self
