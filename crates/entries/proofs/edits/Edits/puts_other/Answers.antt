use Rattle.std.proofs.Common.{◌≡◌, ℕ, List, sym, ap, subst, ◌∙◌}
use Rattle.std.specs.List.{filter}
use Rattle.tree_model.specs.Keys.{edit_keys}
use Rattle.tree_model.specs.Keys.{Rises}
use Rattle.entries.specs.EditList.{Noted, edits_in}
use Rattle.entries.specs.OtherKeys.{puts_another}
use Rattle.entries.proofs.OtherPutLemmas.{AreAbove, above_kept, from_front, rises_kept, skipped}
use Rattle.entries.proofs.edits.Edits.puts_other.Goals as goal

pub puts_from-requires-clause-rises : goal.puts_from-requires-clause-rises
puts_from-requires-clause-rises c =
    let items = c.self.inside.noted.entries in
    let front = c.args.front.now.items in
    subst (λ (es : List Noted). Rises (edit_keys (edits_in es))) (sym (c.range.ensures.between tt)) (rises_kept (from_front front) items c.self.invariant.rises)

pub puts_from-requires-clause-above : goal.puts_from-requires-clause-above
puts_from-requires-clause-above c =
    let items = c.self.inside.noted.entries in
    let front = c.args.front.now.items in
    subst (λ (k : List ℕ). AreAbove k c.range.result) (sym c.deref.ensures.value)
    (subst (AreAbove front) (sym (c.range.ensures.between tt)) (above_kept front items))

pub returns-clause-puts : goal.returns-clause-puts
returns-clause-puts c =
    let items = c.self.inside.noted.entries in
    let front = c.args.front.now.items in
    let id = c.args.id.now in
    let is : c.range.result ≡ filter (from_front front) items = c.range.ensures.between tt in
    c.puts_from.ensures ∙ (λ i. puts_another (c.deref.ensures.value i) id (edits_in (is i))) ∙ skipped front id items
    ∙ ap (puts_another front id) c.self.view_is
