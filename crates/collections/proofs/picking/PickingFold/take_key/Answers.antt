use Rattle.std.proofs.Common.{[], ◌∷◌, ap, arith, sym, ◌∙◌}
use Rattle.btree.specs.Fold.{entry_at}
use Rattle.tree_model.specs.Keys.{key_cmp}
use Rattle.tree_model.proofs.KeyLemmas.{greater_is}
use Rattle.collections.proofs.PickingLemmas.{passes_all, passes_under}
use Rattle.collections.proofs.picking.PickingFold.take_key.Goals as goal

pub returns-then-self-clause-taken : goal.returns-then-self-clause-taken
returns-then-self-clause-taken g c = λ start all value h is.
    passes_all g.F.DocumentFold.makes start c.args.self.now all h (omega arith) (entry_at c.args.key.now value ∷ [])

pub returns-in-Greater-clause-taken : goal.returns-in-Greater-clause-taken
returns-in-Greater-clause-taken g c = λ start all value h is.
    let key = c.args.key.now in
    let greater = ap (λ k. key_cmp k key) (sym c.deref.ensures.value) ∙ sym c.compare_keys.ensures ∙ c.in-Greater.is in
    passes_under g.F.DocumentFold.makes start c.args.self.now all h (omega arith) (entry_at key value ∷ []) (greater_is _ key greater, tt)
