use Rattle.std.proofs.Common.{◌≡◌, drop, ◌++◌}
use Rattle.std.specs.Option.{option_map}
use Rattle.bson.specs.View.{pairs_of}
use Rattle.index.specs.Catalogue.{fields_in}
use Rattle.index.proofs.catalogue.fields_in.Given as goal

abbrev pub invariant-pairs : goal.invariant-pairs
invariant-pairs l =
    option_map (λ fs. l.fields.items ++ fs) (fields_in (pairs_of (drop l.pair-index l.pairs))) ≡ fields_in (pairs_of l.pairs)
