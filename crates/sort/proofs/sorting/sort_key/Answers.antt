use Rattle.std.proofs.Common.{sym, ap, ◌∙◌, map}
use Rattle.std.specs.Prelude.{option_map}
use Rattle.std.specs.Option.{unwrap_or}
use Rattle.std.specs.List.{flat_map}
use Rattle.bson.specs.Tree.{scalar, null}
use Rattle.path.specs.View.{reached}
use Rattle.value_order.specs.Order.{value}
use Rattle.value_order.specs.View.{key_of}
use Rattle.sort.specs.Sort.{keys_of}
use Rattle.sort.specs.SortKeys.{first_of}
use Rattle.std.proofs.Common.{None}
use Rattle.sort.proofs.SortLemmas.{reached_more, reached_all}
use Rattle.sort.proofs.sorting.sort_key.Goals as goal

pub all-preserved : goal.all-preserved
all-preserved c =
    reached_more c.args.field.now.descending c.deref-reached-items.result.now c.all.reached-index c.reached-item.result (option_map key_of c.all.found)
    (option_map key_of c.first_reached-found.result)
    (first_of c.args.field.now.descending None (flat_map keys_of (map reached c.deref-reached-items.result.now)))
    c.all-test.true c.reached-item.is c.first_reached-found.ensures c.all.invariant

pub returns-in-Some : goal.returns-in-Some
returns-in-Some c =
    ap (λ o. unwrap_or (option_map key_of o) (value (scalar null))) (sym c.in-Some.is)
    ∙ reached_all c.args.field.now c.args.document.now c.deref-reached-items.result.now c.all.reached-index (option_map key_of c.all.found) c.all-test.false
    (ap (map reached) c.deref-reached-items.ensures.value ∙ c.in_ok-all.ensures) c.all.invariant

pub returns : goal.returns
returns c =
    ap (λ o. unwrap_or (option_map key_of o) (value (scalar null))) (sym c.in-None.is)
    ∙ reached_all c.args.field.now c.args.document.now c.deref-reached-items.result.now c.all.reached-index (option_map key_of c.all.found) c.all-test.false
    (ap (map reached) c.deref-reached-items.ensures.value ∙ c.in_ok-all.ensures) c.all.invariant
