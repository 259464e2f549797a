use Rattle.std.proofs.Common.{◌≡◌, drop}
use Rattle.filter.specs.View.{conditions_of}
use Rattle.update_model.specs.Upserts.{with_equalities}
use Rattle.update.proofs.upserts.with_equalities.Given as goal

abbrev pub invariant-conditions : goal.invariant-conditions
invariant-conditions l =
    with_equalities l.path (conditions_of (drop l.condition-index l.condition-items)) l.document
    ≡ with_equalities l.path l.filter l.initial.document
