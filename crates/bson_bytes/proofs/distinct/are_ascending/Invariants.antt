use Rattle.std.proofs.Common.{◌≡◌, ◌+◌, ◌<◌, ℕ, [], get_or}
use Rattle.std.specs.declared.cmp.Ordering.TheVariants as orders
use Rattle.bson_bytes.proofs.TableLaws.{lent, before}
use Rattle.bson_bytes.proofs.distinct.are_ascending.Given as goal

abbrev pub invariant-loop-i : goal.invariant-loop-i
invariant-loop-i l = (k : ℕ) → k + 1 < l.i → before (get_or (lent l.names) k []) (get_or (lent l.names) (k + 1) []) ≡ orders.Less
