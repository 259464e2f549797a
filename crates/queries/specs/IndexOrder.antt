-- The order of an index in which the documents that a query asks for can be read.
use Rattle.std.specs.Prelude.{◌≡◌, List, Contains, Some}
use Rattle.filter.specs.Condition.{Conditions}
use Rattle.sort.specs.Sort.{SortField}
use Rattle.index.specs.Definition.{Definition}
use Rattle.planner.specs.KeySpan.{first_key}
use Rattle.plan_model.specs.Plan.{range_in}
use Rattle.walks.specs.InOrder.{IsInOrder}
use Rattle.queries.specs.declared.index_order.IndexOrder.{IndexOrder}

-- It is the order of one of the indexes, from the first text of what the filter and the sort ask of
-- it to the last one.
pub record IsOrderOf (rules : Conditions) (sort : List SortField) (indexes : List Definition)
    (o : IndexOrder) : Type 0 where
  pub there : Contains indexes o.index.now
  pub in_order : IsInOrder rules sort o.index.now o.last.items
  pub begins : o.first.items
      ≡ first_key o.index.now.fields (range_in rules sort (Some o.index.now))
