-- The worked rows of lists.
use Rattle.std.proofs.Common.{refl, arith}
use Rattle.std.specs.Prelude.{[], ◌∷◌, ◌++◌}
use Rattle.std.proofs.lemmas.Bool.Decides.{nat_tests}
use Rattle.freelist.proofs.Marking.{times_in-append}
use Rattle.freelist.specs.FreeList.{AreOnceBelow, IsPartition, named_by, pages_of}
use Rattle.freelist.specs.ListLaws.{ListRows, row_parts}

partition : IsPartition 9 (1 ∷ 4 ∷ 6 ∷ 8 ∷ []) row_parts
partition n = grind (arith, nat_tests)

once : AreOnceBelow 9 (pages_of row_parts ++ named_by row_parts)
once n = omega (arith, partition n, times_in-append n (1 ∷ 4 ∷ 6 ∷ 8 ∷ []) (pages_of row_parts ++ named_by row_parts))

pub list_rows : ListRows
list_rows = record {
  none = refl;
  one = refl;
  full = refl;
  over = refl;
  empty = refl;
  fits = refl;
  needs_two = refl;
  names_none = refl;
  list = record { begins = refl; holds = (refl, (refl, tt)); counted = refl; once = once };
  partition = partition;
  first_taken = refl;
  grows = refl;
}
