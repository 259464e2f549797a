use Rattle.tree_model.proofs.SearchLemmas.{got_itself}
use Rattle.tree_model.proofs.search.branch_child.Goals as goal

pub returns : goal.returns
returns c = got_itself c.args.branch.now c.args.i _ c.child.ensures
