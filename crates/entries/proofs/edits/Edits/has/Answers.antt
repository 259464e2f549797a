use Rattle.std.proofs.Common.{List, ap, ◌∙◌}
use Rattle.tree_model.specs.Keys.{edit_keys}
use Rattle.tree_model.specs.Keys.{Edit}
use Rattle.index.specs.Changes.{is_among}
use Rattle.entries.proofs.EditPlaceLemmas.{has_told}
use Rattle.entries.proofs.edits.Edits.has.Goals as goal

pub returns : goal.returns
returns c = c.contains_key.ensures ∙ has_told c.args.key.now c.self.inside.noted.entries
    ∙ ap (λ (es : List Edit). is_among (edit_keys es) c.args.key.now) c.self.view_is
