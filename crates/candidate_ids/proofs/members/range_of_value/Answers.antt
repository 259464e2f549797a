use Rattle.std.proofs.Common.{◌≡◌, [], Some, sym, ap, ◌∙◌}
use Rattle.bson.specs.View.{tree}
use Rattle.plan_model.specs.Plan.{Range, range_in}
use Rattle.planner.specs.View.{range_of}
use Rattle.candidate_ids.specs.Alternatives.{begins_with, equal_at}
use Rattle.candidate_ids.proofs.members.range_of_value.Goals as goal

pub returns-then-is_spellable : goal.returns-then-is_spellable
returns-then-is_spellable c =
    let path = c.args.path.now in
    let v = tree c.args.value.now in
    let d = c.index-item.result in
    let given : range_of c.beginning_with-range.result ≡ range_in (equal_at path v) [] (Some d) =
    c.beginning_with-range.ensures path (ap (begins_with path) (sym c.fields.ensures.fields) ∙ sym c.if-not-begins_with.ensures)
    (c.is_array.ensures c.if-is_array.false) in
    record {
      definition = d;
      index = ap (λ (r : Range). r.index) given;
      there = (c.indexes.index-index, c.indexes-test.true, sym c.index-item.is);
      given = given;
      spellable = c.is_spellable.ensures c.if-is_spellable.true;
    }
