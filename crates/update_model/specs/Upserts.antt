-- The document that an upsert starts from: the equalities at the filter's top level, set in order.
-- Below `_id` none is set.
use Rattle.std.specs.Prelude.{if◌then◌else◌, Bool, false, Result, Ok, Err}
use Rattle.bson.specs.Tree.{Pairs, no_pairs}
use Rattle.path.specs.declared.refusal.Refusal.{Refusal}
use Rattle.path.specs.declared.refusal.Refusal.TheVariants as refusals
use Rattle.path.specs.Edits.{if_ok, set_at}
use Rattle.filter.specs.Condition.{Predicate, equal, Condition, at, is, Conditions, no_conditions}
use Rattle.filter.specs.Condition.{condition}
use Rattle.filter.specs.IdPaths.{begins_with_id, is_id}
use Rattle.update_model.specs.Update.{Path}

abbrev pub is_below_id : Path → Bool
is_below_id path = if is_id path then false else begins_with_id path

abbrev pub with_equal : Path → Predicate → Pairs → Result Pairs Refusal
with_equal path (equal t) ps =
    if is_below_id path then Err refusals.ImmutableField else set_at path t ps
with_equal path other ps = Ok ps

abbrev pub with_equality : Path → Condition → Pairs → Result Pairs Refusal
with_equality path (is asked) ps = with_equal path asked ps
with_equality path other ps = Ok ps

abbrev pub with_equalities : Path → Conditions → Pairs → Result Pairs Refusal
with_equalities path no_conditions ps = Ok ps
with_equalities path (condition c cs) ps = if_ok (with_equality path c ps) (with_equalities path cs)

abbrev pub with_condition : Condition → Pairs → Result Pairs Refusal
with_condition (at path cs) ps = with_equalities path cs ps
with_condition other ps = Ok ps

abbrev pub with_conditions : Conditions → Pairs → Result Pairs Refusal
with_conditions no_conditions ps = Ok ps
with_conditions (condition c cs) ps = if_ok (with_condition c ps) (with_conditions cs)

abbrev pub base_of : Conditions → Result Pairs Refusal
base_of cs = with_conditions cs no_pairs
