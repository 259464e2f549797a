use Rattle.std.proofs.Common.{◌≡◌, ◌++◌, drop, map}
use Rattle.value_order.specs.View.{key_of}
use Rattle.sort.specs.SortKeys.{field_of, document_keys}
use Rattle.sort.proofs.sort.Sort.keys.Given as goal

abbrev pub invariant-fields : goal.invariant-fields
invariant-fields l =
    map key_of l.keys.items
    ++ document_keys (map field_of (drop l.field-index l.field-items)) l.document ≡ document_keys (map field_of l.field-items) l.document
