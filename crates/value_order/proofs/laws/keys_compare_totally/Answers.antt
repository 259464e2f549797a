use Rattle.value_order.specs.KeyOrderLaws.{key_cmp_total}
use Rattle.value_order.proofs.laws.keys_compare_totally.Goals as goal

pub returns : goal.returns
returns c = key_cmp_total
