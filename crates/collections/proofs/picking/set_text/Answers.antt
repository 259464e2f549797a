use Rattle.std.proofs.Common.{◌++◌, ◌∙◌, ap}
use Rattle.std.specs.Prelude.{if◌then◌else◌, is_ok}
use Rattle.collections.proofs.PickingLemmas.{text_next}
use Rattle.collections.proofs.picking.set_text.Goals as goal

pub returns : goal.returns
returns c = λ front.
    let there = c.in-Some.ensures.lookup.3 in
    let before = c.truncate.new.self.items in
    text_next c.args.number c.args.place c.args.texts.now c.in-Some.text.now c.extend_from_slice.result before
    c.extend_from_slice.new.self.items there.0 there.1 (c.truncate.ensures.items ∙ front)
    (c.extend_from_slice.ensures.items ∙ ap (λ t. if is_ok c.extend_from_slice.result then before ++ t else before) c.deref.ensures.value)
