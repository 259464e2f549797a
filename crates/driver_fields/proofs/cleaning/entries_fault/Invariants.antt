use Rattle.std.proofs.Common.{◌≡◌, drop}
use Rattle.bson.specs.View.{items_of}
use Rattle.driver_fields.specs.Cleaning.{entries_fault}
use Rattle.driver_fields.proofs.cleaning.entries_fault.Given as goal

abbrev pub invariant-entries : goal.invariant-entries
invariant-entries l = entries_fault l.whose (items_of (drop l.entry-index l.entries)) ≡ entries_fault l.whose (items_of l.entries)
