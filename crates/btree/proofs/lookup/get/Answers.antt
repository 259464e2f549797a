use Rattle.tree_model.proofs.GetLemmas.{root_between, root_part}
use Rattle.btree.proofs.lookup.get.Goals as goal

pub returns-clause-looks : goal.returns-clause-looks
returns-clause-looks g c =
    λ d body tree k. c.get_below.ensures.looks d body (root_part (g.P.Pages.store c.args.pages.now) c.args.root d body tree) (root_between c.args.key.now) k
