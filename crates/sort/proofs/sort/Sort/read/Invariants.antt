use Rattle.std.proofs.Common.{◌≡◌, ◌-◌, ◌≤◌, drop, length, map, Ok, ◌++◌}
use Rattle.bson.specs.View.{pairs_of}
use Rattle.path.specs.Edits.{if_ok}
use Rattle.sort.specs.SortReading.{read_fields, read_sort}
use Rattle.sort.specs.SortKeys.{field_of}
use Rattle.sort.proofs.sort.Sort.read.Given as goal

abbrev pub invariant-pairs : goal.invariant-pairs
invariant-pairs l = record {
  within : length l.fields.items ≤ 32;
  same : if_ok (read_fields (32 - length l.fields.items) (pairs_of (drop l.pair-index l.pair-items))) (λ fs. Ok (map field_of l.fields.items ++ fs))
      ≡ read_sort l.document;
}
