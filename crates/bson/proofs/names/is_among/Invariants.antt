use Rattle.std.proofs.Common.{◌≡◌, drop, map}
use Rattle.bson.specs.Lookup.{stands_in}
use Rattle.bson.proofs.names.is_among.Given as goal

abbrev pub invariant-loop-other : goal.invariant-loop-other
invariant-loop-other l = stands_in (map (λ n. n.now) (drop l.other-index l.names)) l.name ≡ stands_in (map (λ n. n.now) l.names) l.name
