use Rattle.std.proofs.Common.{List, map, ap, ◌∙◌}
use Rattle.update_model.specs.Parsing.{conflicts}
use Rattle.update_model.specs.Update.{Edit}
use Rattle.update.specs.View.{edit_of}
use Rattle.update.proofs.EditPathLemmas.{conflicts_so}
use Rattle.update.proofs.edit_list.EditList.with_apart.Goals as goal

pub put_paths-requires : goal.put_paths-requires
put_paths-requires c =
    let e = edit_of c.args.edit in
    conflicts_so c.self.inside.paths (map edit_of c.self.inside.edits.items) e c.self.invariant
    ∙ ap (λ (es : List Edit). conflicts es e) c.self.view_is
    ∙ c.requires
