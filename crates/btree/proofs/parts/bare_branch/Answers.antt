use Rattle.std.proofs.Common.{sym, subst, arith, map}
use Rattle.page.specs.Content.{IsBranch}
use Rattle.tree_model.specs.View.{pivot_in}
use Rattle.tree_model.proofs.ListLemmas.{long_map}
use Rattle.btree.proofs.PartLemmas.{branch_whole}
use Rattle.btree.proofs.parts.bare_branch.Goals as goal

pub of-requires : goal.of-requires
of-requires c =
    subst IsBranch (sym c.strip_first.ensures)
    (branch_whole (map pivot_in c.args.children.now) c.requires.room (omega (arith, c.requires.some, long_map pivot_in c.args.children.now)))
