use Rattle.std.proofs.Common.{◌≡◌, ◌+◌, drop, map}
use Rattle.index.specs.View.{texts_of}
use Rattle.opening.specs.Judging.{key_count}
use Rattle.opening.proofs.judging.add_keys.Given as goal

abbrev pub invariant-each : goal.invariant-each
invariant-each l = l.sum + key_count (map (λ ks. texts_of ks.items) (drop l.some-index l.keys)) ≡ l.count + key_count (map (λ ks. texts_of ks.items) l.keys)
