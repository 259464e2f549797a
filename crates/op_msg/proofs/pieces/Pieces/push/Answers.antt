use Rattle.std.proofs.Common.{◌++◌, List, ℕ, length, ap, arith, length-append}
use Rattle.op_msg.proofs.WholeLemmas.{begun_is_short}
use Rattle.op_msg.proofs.pieces.Pieces.push.Goals as goal

pub overflow_add-self : goal.overflow_add-self
overflow_add-self c =
    let short = begun_is_short (c.args.self.now ++ c.args.chunk.now) c.requires in
    let len = ap (λ (xs : List ℕ). length xs) c.self.view_is in
    omega (arith, short, c.self.invariant.0, len, length-append c.args.self.now c.args.chunk.now)
