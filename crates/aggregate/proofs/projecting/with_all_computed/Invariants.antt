use Rattle.std.proofs.Common.{◌≡◌, drop, map}
use Rattle.aggregate_model.specs.Project.{with_all_computed}
use Rattle.pipelines.specs.View.{computed_of}
use Rattle.aggregate.proofs.projecting.with_all_computed.Given as goal

abbrev pub invariant-all : goal.invariant-all
invariant-all l =
    with_all_computed (map computed_of (drop l.computed-index l.all)) l.whole l.document
    ≡ with_all_computed (map computed_of l.all) l.whole l.initial.document
