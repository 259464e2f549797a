use Rattle.std.proofs.Common.{arith, subst}
use Rattle.tree_model.specs.Keys.{Each, Entry, IsUnder}
use Rattle.collections.proofs.PickingLemmas.{passes_under}
use Rattle.collections.proofs.picking.PickingFold.next_key.Goals as goal

pub returns : goal.returns
returns g c = λ start all more under h.
    passes_under g.F.DocumentFold.makes start c.args.self.now all h (omega arith) more
    (subst (λ k. Each (λ (x : Entry). IsUnder x.key k) more) c.deref.ensures.value under)
