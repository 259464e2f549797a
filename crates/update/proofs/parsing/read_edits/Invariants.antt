use Rattle.std.proofs.Common.{◌≡◌, drop}
use Rattle.bson.specs.View.{pairs_of}
use Rattle.update_model.specs.Parsing.{read_edits}
use Rattle.update.proofs.parsing.read_edits.Given as goal

abbrev pub invariant-pairs : goal.invariant-pairs
invariant-pairs l = read_edits l.operator (pairs_of (drop l.pair-index l.pair-items)) l.edits ≡ read_edits l.operator l.document l.initial.edits
