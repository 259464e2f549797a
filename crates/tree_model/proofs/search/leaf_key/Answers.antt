use Rattle.tree_model.proofs.SearchLemmas.{got}
use Rattle.tree_model.proofs.search.leaf_key.Goals as goal

pub returns : goal.returns
returns c = got (λ x. x.key) c.args.leaf.now c.args.i _ c.key.ensures
