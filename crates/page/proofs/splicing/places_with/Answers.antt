use Rattle.std.proofs.Common.{◌≡◌, ℕ, List, [], ◌∷◌, ◌++◌, ◌+◌, map, ap, ◌∙◌, arith}
use Rattle.page.proofs.SplicingLemmas.{all_places}
use Rattle.page.proofs.splicing.places_with.Goals as goal

pub returns : goal.returns
returns c =
    let begin : c.note_place.new.places.items ≡ _ =
    c.in_ok-note_place.ensures
    ∙ ap (λ (l : List ℕ). l ++ c.args.from ∷ [])
    (c.in_ok-extend_from_slice.ensures.items ∙ (λ i. c.in_ok-made.ensures.items i ++ c.split_at.ensures.front i)) in
    all_places (λ p. p + c.args.size) c.loop-place.made.items c.note_place.new.places.items c.split_at.result.1.now c.loop-place.place-index
    (omega arith) c.loop-place.invariant
    ∙ (λ i. begin i ++ map (λ p. p + c.args.size) (c.split_at.ensures.back i))
