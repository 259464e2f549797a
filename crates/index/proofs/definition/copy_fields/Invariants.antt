use Rattle.std.proofs.Common.{◌≡◌, take}
use Rattle.index.proofs.definition.copy_fields.Given as goal

abbrev pub invariant-fields : goal.invariant-fields
invariant-fields l = l.copies.items ≡ take l.field-index l.fields
