use Rattle.std.proofs.Common.{◌≡◌, take, map}
use Rattle.sort.proofs.sort.Sort.places.Given as goal

abbrev pub invariant-all : goal.invariant-all
invariant-all l = l.places.items ≡ map (λ r. r.place) (take l.ranked-index l.ranked-items)
