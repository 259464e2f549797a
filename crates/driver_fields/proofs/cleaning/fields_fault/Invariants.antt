use Rattle.std.proofs.Common.{◌≡◌, drop}
use Rattle.bson.specs.View.{pairs_of}
use Rattle.driver_fields.specs.Cleaning.{fields_fault}
use Rattle.driver_fields.proofs.cleaning.fields_fault.Given as goal

abbrev pub invariant-pairs : goal.invariant-pairs
invariant-pairs l = fields_fault l.whose (pairs_of (drop l.pair-index l.pairs)) ≡ fields_fault l.whose (pairs_of l.pairs)
