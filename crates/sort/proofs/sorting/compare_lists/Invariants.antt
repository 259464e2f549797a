use Rattle.std.proofs.Common.{◌≡◌, drop, map}
use Rattle.value_order.specs.View.{key_of}
use Rattle.sort.specs.SortKeys.{field_of, keys_cmp}
use Rattle.sort.proofs.sorting.compare_lists.Given as goal

abbrev pub invariant-fields : goal.invariant-fields
invariant-fields l =
    keys_cmp (map field_of (drop l.i l.fields)) (map key_of (drop l.i l.a)) (map key_of (drop l.i l.b))
    ≡ keys_cmp (map field_of l.fields) (map key_of l.a) (map key_of l.b)
