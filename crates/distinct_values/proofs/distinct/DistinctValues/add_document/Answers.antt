use Rattle.std.proofs.Common.{◌≡◌, ◌∙◌, List, map, subst, sym, refl, ap, arith}
use Rattle.bson.specs.Tree.{document}
use Rattle.path.specs.Reach.{Reached, reach}
use Rattle.path.specs.View.{reached}
use Rattle.path.specs.declared.reaching.Reached.{Reached as Found}
use Rattle.distinct_values.specs.DistinctValues.{elements, with_values}
use Rattle.distinct_values.proofs.FlatLemmas.{AreFlat, reach_flat}
use Rattle.distinct_values.proofs.WalkLemmas.{found_step, found_flat}
use Rattle.distinct_values.proofs.distinct.DistinctValues.add_document.Goals as goal

pub found-init : goal.found-init
found-init c =
    let is : map reached c.deref-one-items.result.now ≡ reach c.args.path.now (document c.args.document.now) =
    ap (map reached) c.deref-one-items.ensures.value ∙ c.in_ok-found.ensures in
    record {
      left = refl;
      flat = subst (AreFlat 98) (sym is) (reach_flat 98 c.args.path.now (document c.args.document.now) (omega (arith, c.requires)));
    }

pub found-preserved : goal.found-preserved
found-preserved c = record {
  left =
      found_step c.found.self c.add_reached.new.self _ c.deref-one-items.result.now c.found.one-index c.one-item.result c.found-test.true
      (c.in_ok-add_reached.ensures ∙ ap (λ (r : Found). with_values c.found.self (elements (reached r))) c.one-item.is) c.found.invariant.left;
  flat = (found_flat c.deref-one-items.result.now c.found.one-index c.one-item.result c.found-test.true c.found.invariant.flat).1;
}
