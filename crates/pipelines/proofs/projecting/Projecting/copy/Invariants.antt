use Rattle.std.proofs.Common.{◌≡◌, ◌++◌, drop, map}
use Rattle.pipelines.specs.View.{computed_of}
use Rattle.pipelines.proofs.projecting.Projecting.copy.Given as goal

abbrev pub invariant-computed : goal.invariant-computed
invariant-computed l =
    map computed_of l.computed.items ++ map computed_of (drop l.field-index l.self.computed.items) ≡ map computed_of l.self.computed.items
