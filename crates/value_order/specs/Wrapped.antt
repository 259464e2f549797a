-- Values that are wrapped to be compared.
use Rattle.std.specs.declared.cmp.Ordering.{Ordering}
use Rattle.std.specs.Ordering.{on}
use Rattle.std.specs.Cmp.{IsTotalOrder, on_total}
use Rattle.bson.specs.View.{tree}
use Rattle.value_order.specs.Order.{compare}
use Rattle.value_order.specs.TotalLaws.{compare_total}
use Rattle.value_order.specs.declared.wrapper.Order.{Order}

-- the order of the values inside
abbrev pub order_cmp : Order → Order → Ordering
order_cmp = on (λ a. tree a.0.now) compare

pub order_total : IsTotalOrder order_cmp
order_total = on_total (λ (a : Order). tree a.0.now) compare_total
