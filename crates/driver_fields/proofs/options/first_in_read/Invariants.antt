use Rattle.std.proofs.Common.{◌≡◌, drop}
use Rattle.bson.specs.View.{pairs_of}
use Rattle.driver_fields.specs.Rules.{first_in, read_option_fault}
use Rattle.driver_fields.proofs.options.first_in_read.Given as goal

abbrev pub invariant-pairs : goal.invariant-pairs
invariant-pairs l = first_in read_option_fault (pairs_of (drop l.pair-index l.pairs)) ≡ first_in read_option_fault (pairs_of l.pairs)
