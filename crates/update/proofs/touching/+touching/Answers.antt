use Rattle.std.proofs.Common.{◌≡◌, Some, ap, sym, ◌∙◌, arith}
use Rattle.bson.specs.Tree.{scalar, null}
use Rattle.bson.specs.Lawful.{levels}
use Rattle.bson.specs.View.{tree}
use Rattle.bson.specs.Edits.{place, pairs_len, with_value}
use Rattle.bson.specs.EditPlaces.{pairs_len-with_value, with_value-twice}
use Rattle.path.proofs.WalkLemmas.{place_within}
use Rattle.update.proofs.RenamingLemmas.{same_there}
use Rattle.update.proofs.touching.+touching.Goals as goal

pub touch_in_field-take_field-old-requires : goal.touch_in_field-take_field-old-requires
touch_in_field-take_field-old-requires t c =
    let here : place c.args.document c.args.part.now ≡ Some c.in-Some.at =
    ap (place c.args.document) (sym c.as_str.ensures.name) ∙ sym c.position.ensures ∙ c.in-Some.is in
    place_within c.args.document c.args.part.now c.in-Some.at here

pub touch_in_field-put_field-requires-clause-there : goal.touch_in_field-put_field-requires-clause-there
touch_in_field-put_field-requires-clause-there t c =
    let here : place c.args.document c.args.part.now ≡ Some c.in-Some.at =
    ap (place c.args.document) (sym c.as_str.ensures.name) ∙ sym c.position.ensures ∙ c.in-Some.is in
    omega (
      arith,
      ap pairs_len c.take_field-old.ensures.after,
      pairs_len-with_value c.args.document c.in-Some.at (scalar null),
      place_within c.args.document c.args.part.now c.in-Some.at here,
    )

pub touch_in_field-put_field-requires-clause-levels : goal.touch_in_field-put_field-requires-clause-levels
touch_in_field-put_field-requires-clause-levels t c = omega (arith, ap levels c.touch_inside-same.ensures, c.take_field-old.ensures.levels)

pub touch_in_field-returns : goal.touch_in_field-returns
touch_in_field-returns t c =
    c.put_field.ensures
    ∙ ap (λ ps. with_value ps c.in-Some.at (tree c.touch_inside-same.result)) c.take_field-old.ensures.after
    ∙ with_value-twice c.args.document c.in-Some.at (scalar null) (tree c.touch_inside-same.result)
    ∙ ap (with_value c.args.document c.in-Some.at) c.touch_inside-same.ensures
    ∙ same_there c.args.document c.in-Some.at (tree c.take_field-old.result) c.take_field-old.ensures.value
