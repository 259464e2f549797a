use Rattle.std.proofs.Common.{◌≡◌, ◌+◌, ◌++◌, map, drop}
use Rattle.page.proofs.splicing.places_with.Given as goal

abbrev pub invariant-loop-place : goal.invariant-loop-place
invariant-loop-place l = l.made.items ++ map (λ p. p + l.size) (drop l.place-index l.behind) ≡ l.initial.made.items ++ map (λ p. p + l.size) l.behind
