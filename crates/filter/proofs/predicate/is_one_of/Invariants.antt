use Rattle.std.proofs.Common.{◌≡◌, drop, map}
use Rattle.std.specs.Prelude.{◌==◌}
use Rattle.std.specs.List.{list_any}
use Rattle.bson.specs.Kinds.{kind_byte}
use Rattle.filter.proofs.predicate.is_one_of.Given as goal

abbrev pub invariant-kinds : goal.invariant-kinds
invariant-kinds l =
    list_any (λ b. b == l.byte) (map kind_byte (drop l.kind-index l.kinds))
    ≡ list_any (λ b. b == l.byte) (map kind_byte l.kinds)
