use Rattle.std.proofs.Common.{◌≡◌, map, drop}
use Rattle.path.specs.View.{reached}
use Rattle.distinct_values.specs.DistinctValues.{all_elements, with_values}
use Rattle.distinct_values.proofs.FlatLemmas.{AreFlat}
use Rattle.distinct_values.proofs.distinct.DistinctValues.add_document.Given as goal

abbrev pub invariant-found : goal.invariant-found
invariant-found l = record {
  left : with_values l.self (all_elements (map reached (drop l.one-index l.one-items)))
      ≡ with_values l.initial.self (all_elements (map reached l.one-items));
  flat : AreFlat 98 (map reached (drop l.one-index l.one-items));
}
