use Rattle.std.proofs.Common.{◌≡◌}
use Rattle.bson.specs.Edits.{items_len}
use Rattle.driver_fields.specs.Cleaning.{kept_entries}
use Rattle.driver_fields.proofs.CleaningLemmas.{kept_from}
use Rattle.driver_fields.proofs.cleaning.kept_entries.Given as goal

abbrev pub invariant-entries : goal.invariant-entries
invariant-entries l = record {
  left : kept_from l.whose l.at l.entries ≡ kept_entries l.whose l.fn.entries;
  as_many : items_len l.entries ≡ items_len l.fn.entries;
}
