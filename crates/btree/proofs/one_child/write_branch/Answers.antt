use Rattle.std.proofs.Common.{arith, map, subst, sym}
use Rattle.page.specs.Content.{IsBranch}
use Rattle.page.proofs.ChildPageLemmas.{with_branch}
use Rattle.btree.specs.Loose.{pivot_slot, under_key}
use Rattle.btree.specs.Turn.{IsHeld}
use Rattle.btree.proofs.OneChildLemmas.{amid_held}
use Rattle.tree_model.proofs.StoreLemmas.{grows_itself}
use Rattle.btree.proofs.one_child.write_branch.Goals as goal

pub returns-clause-turns : goal.returns-clause-turns
returns-clause-turns g c =
    λ base high entries reached below o m deep little k.
    let s = g.P.Pages.store c.args.pages.now in
    c.write_made.ensures.turns base high entries reached
    (subst (λ pivots. IsHeld s base c.args.low.now high entries reached
    (record { rank = c.args.rank; slots = map pivot_slot (under_key c.args.low.now pivots) }))
    (sym c.in_ok-made.ensures)
    (amid_held s base c.args.rank c.args.page c.args.low.now high c.args.branch.now c.args.at entries reached below o m deep))
    deep
    (subst IsBranch (sym c.in_ok-made.ensures)
    (with_branch c.args.at c.args.page c.args.branch.now (omega (arith, c.ranges.page.fits)) c.requires.sound))
    little k

pub returns-in_err-made-clause-grows : goal.returns-in_err-made-clause-grows
returns-in_err-made-clause-grows g c = grows_itself (g.P.Pages.store c.args.pages.now)
