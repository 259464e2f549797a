use Rattle.std.proofs.Common.{ℕ, List, ◌++◌, ◌+◌, ◌-◌, length, map, take, drop, ap, ◌∙◌, arith}
use Rattle.page.proofs.ReadLemmas.{slice_same}
use Rattle.page.proofs.SplicingLemmas.{all_places}
use Rattle.page.proofs.splicing.places_without.Goals as goal

pub returns : goal.returns
returns c =
    let places = c.args.places.now in
    let next = c.args.at + 1 in
    all_places (λ p. p - c.args.size) c.loop-place.made.items c.extend_from_slice.new.self.items
    (take (length places - next) (drop next places)) c.loop-place.place-index (omega arith) c.loop-place.invariant
    ∙ (λ i. (c.in_ok-extend_from_slice.ensures.items ∙ ap (λ (l : List ℕ). l ++ take c.args.at places) c.in_ok-made.ensures.items) i
    ++ map (λ p. p - c.args.size) (slice_same next places i))
