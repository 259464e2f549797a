use Rattle.std.proofs.Common.{ℕ, List, [], ◌∷◌, map, ap, sym, ◌∙◌}
use Rattle.index.specs.View.{texts_of}
use Rattle.index.specs.Steps.{extended, combined}
use Rattle.index.proofs.CombinationLemmas.{popped, extended-nothing}
use Rattle.index.proofs.keys.combined.Goals as goal

pub all-init : goal.all-init
all-init c =
    let rest : List (List (List ℕ)) = map (λ texts. texts_of texts.items) c.pop.new.self.items in
    ap (combined rest) (sym (extended-nothing (texts_of c.in-Some.ends.items)))
    ∙ sym (popped c.args.all.items c.pop.new.self.items c.in-Some.ends ([] ∷ []) c.in-Some.ensures.items)

pub all-preserved : goal.all-preserved
all-preserved c =
    let rest : List (List (List ℕ)) = map (λ texts. texts_of texts.items) c.pop-in-all.new.self.items in
    ap (combined rest) (c.in_ok-keys.ensures ∙ (λ i. extended (texts_of (c.deref.ensures.value i)) (texts_of (c.deref-in-Some-pop.ensures.value i))))
    ∙ sym (popped c.all.all.items c.pop-in-all.new.self.items c.in-Some-pop.fronts (texts_of c.all.keys.items) c.in-Some-pop.ensures.items)
    ∙ c.all.invariant
