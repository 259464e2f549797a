use Rattle.bson_bytes.specs.Raw.{value_spelled}
use Rattle.bson_bytes.proofs.RawLaws.{value_at-spelled}
use Rattle.bson_bytes.proofs.raw.RawValue.value.Goals as goal

-- reading what spells a value fails for want of memory alone
pub unreachable-requires : goal.unreachable-requires
unreachable-requires c =
    let k = c.self.inside.kind in
    let bytes = c.self.inside.bytes.now in
    let ok = value_at-spelled k bytes (value_spelled k bytes) c.self.invariant in
    let bad = c.in-Err.ensures c.in_default.not-Memory in
    absurd cc
