use Rattle.std.proofs.Common.{List, Some, None, ap, ◌∙◌}
use Rattle.std.specs.Prelude.{is_some, option_map}
use Rattle.tree_model.specs.Keys.{Edit}
use Rattle.entries.specs.EditList.{edit_at}
use Rattle.entries.proofs.EditPlaceLemmas.{puts_told}
use Rattle.entries.proofs.edits.Edits.puts_at.Goals as goal

pub returns-in-Some-clause-told : goal.returns-in-Some-clause-told
returns-in-Some-clause-told c =
    ap Some c.is_some.ensures ∙ puts_told c.args.key.now c.self.inside.noted.entries (Some c.in-Some.value.now) c.in-Some.ensures.value
    ∙ ap (λ (es : List Edit). option_map is_some (edit_at c.args.key.now es)) c.self.view_is

pub returns-in-None-clause-told : goal.returns-in-None-clause-told
returns-in-None-clause-told c =
    puts_told c.args.key.now c.self.inside.noted.entries None c.in-None.ensures.value
    ∙ ap (λ (es : List Edit). option_map is_some (edit_at c.args.key.now es)) c.self.view_is
