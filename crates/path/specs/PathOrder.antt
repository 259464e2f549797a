-- The order of paths: part by part, each by its bytes. A path stands before those that it leads to.
use Rattle.std.specs.Prelude.{ℕ, List}
use Rattle.std.specs.Ordering.{nat_cmp}
use Rattle.std.specs.Cmp.{IsTotalOrder}
use Rattle.std.specs.Cmp.Lexicographic.{slice_cmp, lists_total, nat_list_cmp_total}
use Rattle.std.specs.declared.cmp.Ordering.{Ordering}

abbrev pub part_cmp : List ℕ → List ℕ → Ordering
part_cmp = slice_cmp nat_cmp

abbrev pub path_cmp : List (List ℕ) → List (List ℕ) → Ordering
path_cmp = slice_cmp part_cmp

pub part_total : IsTotalOrder part_cmp
part_total = nat_list_cmp_total

pub path_total : IsTotalOrder path_cmp
path_total = lists_total part_total
