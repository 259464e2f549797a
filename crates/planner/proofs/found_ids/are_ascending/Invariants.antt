use Rattle.std.proofs.Common.{◌≡◌, ◌+◌, ◌<◌, ℕ, [], get_or}
use Rattle.std.specs.declared.cmp.Ordering.TheVariants.{Less}
use Rattle.index.specs.View.{texts_of}
use Rattle.value_order.specs.Order.{bytes_cmp}
use Rattle.planner.proofs.found_ids.are_ascending.Given as goal

abbrev pub invariant-loop-i : goal.invariant-loop-i
invariant-loop-i l =
    (k : ℕ) → k + 1 < l.i → bytes_cmp (get_or (texts_of l.ids) k []) (get_or (texts_of l.ids) (k + 1) []) ≡ Less
