use Rattle.std.proofs.Common.{◌≡◌, ◌++◌, drop, Ok}
use Rattle.bson.specs.View.{items_of}
use Rattle.path.specs.Edits.{if_ok}
use Rattle.filter.specs.Words.{each_kind}
use Rattle.filter.proofs.operator.each_kind.Given as goal

abbrev pub invariant-items : goal.invariant-items
invariant-items l = if_ok (each_kind (items_of (drop l.item-index l.item-items))) (λ ks. Ok (l.kinds.items ++ ks)) ≡ each_kind l.array
