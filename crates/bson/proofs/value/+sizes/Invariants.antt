use Rattle.std.proofs.Common.{◌≡◌, ◌+◌, length, take}
use Rattle.bson.specs.View.{pairs_of, items_of}
use Rattle.bson.specs.Spelling.{pairs_bytes, items_bytes}
use Rattle.bson.specs.Sizing.{capped_len}
use Rattle.bson.proofs.value.+sizes.Given as goal

abbrev pub invariant-Array::encoded_len-items : goal.invariant-Array::encoded_len-items
invariant-Array::encoded_len-items l = l.len ≡ capped_len (length (items_bytes 0 (items_of (take l.i l.item-items))) + 5)

abbrev pub invariant-Document::encoded_len-pairs : goal.invariant-Document::encoded_len-pairs
invariant-Document::encoded_len-pairs l = l.len ≡ capped_len (length (pairs_bytes (pairs_of (take l.pair-index l.pair-items))) + 5)
