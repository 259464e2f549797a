use Rattle.std.proofs.Common.{◌∙◌, sym, ap, subst, map}
use Rattle.tree_model.specs.EditView.{edit_in}
use Rattle.tree_model.specs.Keys.{Each, Edit, IsUnder}
use Rattle.btree.proofs.LooseLemmas.{map_take}
use Rattle.btree.proofs.PrepareLemmas.{before_under}
use Rattle.btree.proofs.changing.edits_at.Goals as goal

pub returns-clause-before : goal.returns-clause-before
returns-clause-before c =
    λ rise. subst (Each (λ (e : Edit). IsUnder e.key c.args.key.now))
    (sym (ap (map edit_in) c.split_at.ensures.front ∙ map_take edit_in c.edits_from.result c.args.edits.now))
    (before_under c.args.edits.now c.edits_from.result c.args.key.now c.edits_from.ensures.within rise c.edits_from.ensures.before)
