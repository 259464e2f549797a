use Rattle.std.proofs.Common.{◌≡◌, ◌++◌, take}
use Rattle.std.specs.List.{flat_map}
use Rattle.op_msg.proofs.pieces.Pieces.put_into.Given as goal

abbrev pub invariant-pieces : goal.invariant-pieces
invariant-pieces l = l.whole.items ≡ l.fn.whole.items ++ flat_map (λ p. p.items) (take l.piece-index l.piece-items)
