use Rattle.std.proofs.Common.{arith}
use Rattle.bson.specs.View.{tree}
use Rattle.bson_bytes.proofs.TreeLaws.{is_shallow}
use Rattle.bson_bytes.proofs.decoding.decode_inner.Goals as goal

pub returns-clause-levels : goal.returns-clause-levels
returns-clause-levels c =
    is_shallow (λ x. (tree x.0, x.1.now)) c.args.outer_levels c.args.bytes.now c.read_value.result c.requires.1
    (λ i. omega (arith, c.type_inv.bytes i)) c.read_value.ensures
