use Rattle.std.proofs.Common.{◌≡◌, Option, Some, ap, arith, sym, ◌∙◌}
use Rattle.bson.specs.Edits.{place, pairs_len, with_value}
use Rattle.bson.specs.EditPlaces.{with_value-twice, pairs_len-with_value}
use Rattle.bson.specs.EditsLaws.{put-place}
use Rattle.bson.specs.Lawful.{levels}
use Rattle.bson.specs.Tree.{Tree, scalar, null, Pairs}
use Rattle.bson.specs.View.{tree}
use Rattle.driver_fields.specs.Cleaning.{kept_array, with_kept}
use Rattle.driver_fields.proofs.CleaningLemmas.{array-levels}
use Rattle.driver_fields.proofs.InPlaceLemmas.{not_there, found_there}
use Rattle.driver_fields.proofs.cleaning.keep_under.Goals as goal

pub returns-in_default : goal.returns-in_default
returns-in_default c =
    let body = c.args.body.now in
    sym (ap (λ (x : Option Tree). with_kept c.args.whose c.args.field.now x body)
    (not_there body c.args.field.now (sym c.position.ensures ∙ c.in_default.is)))

pub take_field-value-requires : goal.take_field-value-requires
take_field-value-requires c = (found_there c.args.body.now c.args.field.now c.in-Some.at (sym c.in-Some.ensures)).1

pub put_field-requires-clause-there : goal.put_field-requires-clause-there
put_field-requires-clause-there c =
    omega (
      arith,
      ap pairs_len c.take_field-value.ensures.after,
      pairs_len-with_value c.args.body.now c.in-Some.at (scalar null),
      (found_there c.args.body.now c.args.field.now c.in-Some.at (sym c.in-Some.ensures)).1,
    )

pub put_field-requires-clause-levels : goal.put_field-requires-clause-levels
put_field-requires-clause-levels c =
    omega (arith, ap levels c.kept_array.ensures, array-levels c.args.whose (tree c.take_field-value.result), c.take_field-value.ensures.levels)

pub returns : goal.returns
returns c =
    let body = c.args.body.now in
    let at = c.in-Some.at in
    let there : place body c.args.field.now ≡ Some at = sym c.in-Some.ensures in
    let found = (found_there body c.args.field.now at there).0 (tree c.take_field-value.result) c.take_field-value.ensures.value in
    c.put_field.ensures
    ∙ ap (λ (ps : Pairs). with_value ps at (tree c.kept_array.result)) c.take_field-value.ensures.after
    ∙ with_value-twice body at (scalar null) (tree c.kept_array.result)
    ∙ ap (with_value body at) c.kept_array.ensures
    ∙ sym (put-place body c.args.field.now (kept_array c.args.whose (tree c.take_field-value.result)) at there)
    ∙ sym (ap (λ (x : Option Tree). with_kept c.args.whose c.args.field.now x body) found)
