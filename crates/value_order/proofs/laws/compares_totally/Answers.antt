use Rattle.value_order.specs.TotalLaws.{compare_total}
use Rattle.value_order.proofs.laws.compares_totally.Goals as goal

pub returns : goal.returns
returns c = compare_total
