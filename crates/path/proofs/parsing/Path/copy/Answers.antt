use Rattle.std.proofs.Common.{sym, ◌∙◌}
use Rattle.std.proofs.lemmas.List.{take_all}
use Rattle.path.proofs.parsing.Path.copy.Goals as goal

pub invariant_of-result : goal.invariant_of-result
invariant_of-result c = λ none.
    c.self.invariant
    (sym c.deref-part-items.ensures.value ∙ sym (take_all c.parts.part-index c.deref-part-items.result.now c.parts-test.false) ∙ sym c.parts.invariant ∙ none)
