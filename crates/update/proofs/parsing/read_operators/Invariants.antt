use Rattle.std.proofs.Common.{◌≡◌, [], drop}
use Rattle.bson.specs.View.{pairs_of}
use Rattle.update_model.specs.Parsing.{read_operators}
use Rattle.update.proofs.parsing.read_operators.Given as goal

abbrev pub invariant-pairs : goal.invariant-pairs
invariant-pairs l = read_operators (pairs_of (drop l.pair-index l.pair-items)) l.edits ≡ read_operators l.document []
