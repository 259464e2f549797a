use Rattle.std.proofs.Common.{◌≡◌, drop, map, None}
use Rattle.std.specs.Prelude.{option_map}
use Rattle.std.specs.List.{flat_map}
use Rattle.path.specs.View.{reached}
use Rattle.value_order.specs.View.{key_of}
use Rattle.sort.specs.Sort.{keys_of}
use Rattle.sort.specs.SortKeys.{first_of}
use Rattle.sort.proofs.sorting.sort_key.Given as goal

abbrev pub invariant-all : goal.invariant-all
invariant-all l =
    first_of l.field.descending (option_map key_of l.found) (flat_map keys_of (map reached (drop l.reached-index l.reached-items)))
    ≡ first_of l.field.descending None (flat_map keys_of (map reached l.reached-items))
