use Rattle.std.proofs.Common.{◌≡◌, ◌+◌, ◌-◌, ◌++◌, map, drop}
use Rattle.page.proofs.splicing.append_places.Given as goal

abbrev pub invariant-loop-place : goal.invariant-loop-place
invariant-loop-place l =
    l.made.items ++ map (λ p. p - l.from + l.to) (drop l.place-index l.places) ≡ l.initial.made.items ++ map (λ p. p - l.from + l.to) l.places
