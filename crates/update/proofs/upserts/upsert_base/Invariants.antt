use Rattle.std.proofs.Common.{◌≡◌, drop}
use Rattle.filter.specs.View.{conditions_of}
use Rattle.update_model.specs.Upserts.{with_conditions, base_of}
use Rattle.update.proofs.upserts.upsert_base.Given as goal

abbrev pub invariant-conditions : goal.invariant-conditions
invariant-conditions l =
    with_conditions (conditions_of (drop l.condition-index l.condition-items)) l.document ≡ base_of l.filter
