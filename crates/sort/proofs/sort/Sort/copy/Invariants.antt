use Rattle.std.proofs.Common.{◌≡◌, take, map}
use Rattle.sort.specs.SortKeys.{field_of}
use Rattle.sort.proofs.sort.Sort.copy.Given as goal

abbrev pub invariant-fields : goal.invariant-fields
invariant-fields l = map field_of l.fields.items ≡ map field_of (take l.field-index l.field-items)
