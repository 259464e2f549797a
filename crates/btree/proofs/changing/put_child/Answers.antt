use Rattle.btree.specs.Turn.{model_in}
use Rattle.btree.proofs.FewLemmas.{few_above_one}
use Rattle.btree.proofs.changing.put_child.Goals as goal

pub returns-in-Some-clause-turns : goal.returns-in-Some-clause-turns
returns-in-Some-clause-turns g c =
    λ base high entries reached m deep little k. c.write_branch.ensures.turns base high entries reached
    (model_in c.args.below) c.in-Some.ensures m deep little k

pub returns-in-Some-clause-few : goal.returns-in-Some-clause-few
returns-in-Some-clause-few g c =
    λ first count little below k.
    few_above_one first (g.P.Pages.store c.args.pages.now) (g.P.Pages.store c.write_branch.new.pages) c.args.rank count (model_in c.args.below)
    c.write_branch.result c.requires.rank below (c.write_branch.ensures.few little k)
