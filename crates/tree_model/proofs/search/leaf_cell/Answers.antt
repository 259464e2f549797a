use Rattle.tree_model.proofs.SearchLemmas.{got_itself}
use Rattle.tree_model.proofs.search.leaf_cell.Goals as goal

pub returns : goal.returns
returns c = got_itself c.args.leaf.now c.args.i _ c.cell.ensures
