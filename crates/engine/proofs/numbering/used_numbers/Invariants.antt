use Rattle.engine.proofs.NumberingLemmas.{AreMarkedTo}
use Rattle.engine.proofs.numbering.used_numbers.Given as goal

abbrev pub invariant-names : goal.invariant-names
invariant-names l = AreMarkedTo l.names l.name-index l.used.items
