use Rattle.std.proofs.Common.{◌≡◌, ◌-◌, ◌++◌, map, drop}
use Rattle.page.proofs.splicing.places_without.Given as goal

abbrev pub invariant-loop-place : goal.invariant-loop-place
invariant-loop-place l = l.made.items ++ map (λ p. p - l.size) (drop l.place-index l.place-items) ≡ l.initial.made.items ++ map (λ p. p - l.size) l.place-items
