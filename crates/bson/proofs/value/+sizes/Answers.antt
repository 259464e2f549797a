use Rattle.std.proofs.Common.{◌+◌, length, take, refl, ap, arith}
use Rattle.std.specs.Fmt.{decimal}
use Rattle.bson.specs.View.{tree, pairs_of, items_of}
use Rattle.bson.specs.Spelling.{tree_bytes, pairs_bytes, items_bytes}
use Rattle.bson.specs.SizingLaws.{pairs_bytes-none, items_bytes-none}
use Rattle.bson.proofs.WriteLoopLaws.{pairs_longer, items_longer, capped_sum}
use Rattle.bson.proofs.value.+sizes.Goals as goal

pub Array::encoded_len-items-init : goal.Array::encoded_len-items-init
Array::encoded_len-items-init t c = omega (arith, ap length (items_bytes-none 0))

pub Array::encoded_len-items-preserved : goal.Array::encoded_len-items-preserved
Array::encoded_len-items-preserved t c =
    capped_sum c.items.len (length (decimal c.items.i)) (length (tree_bytes (tree c.item-item.result))) c.saturating_add-len.result
    (length (items_bytes 0 (items_of (take c.items.i c.deref-item-items.result.now))))
    (length (items_bytes 0 (items_of (take (c.items.i + 1) c.deref-item-items.result.now)))) c.saturating_add.result c.saturating_add-in-items.result
    c.saturating_add-len.result (length c.format-name_len.result.now) c.encoded_len-value_len.result
    c.items.invariant c.saturating_add.ensures
    (ap length c.format-name_len.ensures.text) c.saturating_add-in-items.ensures c.encoded_len-value_len.ensures c.saturating_add-len.ensures
    (items_longer c.deref-item-items.result.now c.items.i c.item-item.result c.items-test.true c.item-item.is) refl

pub Document::encoded_len-pairs-init : goal.Document::encoded_len-pairs-init
Document::encoded_len-pairs-init t c = omega (arith, ap length pairs_bytes-none)

pub Document::encoded_len-pairs-preserved : goal.Document::encoded_len-pairs-preserved
Document::encoded_len-pairs-preserved t c =
    capped_sum c.pairs.len (length c.pair-item.result.name) (length (tree_bytes (tree c.pair-item.result.value))) c.saturating_add-len.result
    (length (pairs_bytes (pairs_of (take c.pairs.pair-index c.deref-pair-items.result.now))))
    (length (pairs_bytes (pairs_of (take (c.pairs.pair-index + 1) c.deref-pair-items.result.now)))) c.saturating_add.result c.saturating_add-in-pairs.result
    c.saturating_add-len.result (length c.as_str-name_len.result.now) c.encoded_len-value_len.result
    c.pairs.invariant c.saturating_add.ensures
    (ap length c.as_str-name_len.ensures.value) c.saturating_add-in-pairs.ensures c.encoded_len-value_len.ensures c.saturating_add-len.ensures
    (pairs_longer c.deref-pair-items.result.now c.pairs.pair-index c.pair-item.result c.pairs-test.true c.pair-item.is) refl
