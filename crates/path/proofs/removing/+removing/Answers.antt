use Rattle.std.proofs.Common.{◌≡◌, ◌≤◌, ◌<◌, Some, None, min, ap, sym, ◌∙◌, arith}
use Rattle.std.specs.Prelude.{option_map}
use Rattle.std.specs.Option.{option_and_then}
use Rattle.bson.specs.Tree.{Tree, scalar, null}
use Rattle.bson.specs.View.{tree}
use Rattle.bson.specs.Edits.{place, pairs_len, with_value, without_pair, items_len, with_item, item_at}
use Rattle.bson.specs.EditPlaces.{pairs_len-with_value, with_value-twice, with_item-twice}
use Rattle.bson.specs.EditsLaws.{put-place, cut-place, place-absent}
use Rattle.path.specs.Parts.{index_of}
use Rattle.path.specs.Edits.{cut_off, cut_item}
use Rattle.path.specs.Place.{value_at}
use Rattle.path.proofs.IndexLemmas.{cut_item-there, cut_item-past, items_len-with_item, named-there, named-past, index-none}
use Rattle.path.proofs.WalkLemmas.{place_within, place_value, cut_off-levels, cut_field-there, cut_field-absent, without_pair-with_value}
use Rattle.path.proofs.removing.+removing.Goals as goal

pub cut_field-take_field-old-requires : goal.cut_field-take_field-old-requires
cut_field-take_field-old-requires t c =
    let here : place c.args.document c.args.part.now ≡ Some c.in-Some.at =
    ap (place c.args.document) (sym c.as_str.ensures.name) ∙ sym c.position.ensures ∙ c.in-Some.is in
    place_within c.args.document c.args.part.now c.in-Some.at here

pub cut_field-put_field-requires-clause-levels : goal.cut_field-put_field-requires-clause-levels
cut_field-put_field-requires-clause-levels t c =
    omega (
      arith,
      cut_off-levels c.args.rest.now (tree c.take_field-old.result) (tree c.in-Some-left.left)
          (sym c.cut-left.ensures.left ∙ ap (option_map tree) c.in-Some-left.is),
      c.take_field-old.ensures.levels,
    )

pub cut_field-put_field-requires-clause-there : goal.cut_field-put_field-requires-clause-there
cut_field-put_field-requires-clause-there t c =
    let here : place c.args.document c.args.part.now ≡ Some c.in-Some.at =
    ap (place c.args.document) (sym c.as_str.ensures.name) ∙ sym c.position.ensures ∙ c.in-Some.is in
    omega (
      arith,
      ap pairs_len c.take_field-old.ensures.after,
      pairs_len-with_value c.args.document c.in-Some.at (scalar null),
      place_within c.args.document c.args.part.now c.in-Some.at here,
    )

pub cut_field-remove_at-pair-requires : goal.cut_field-remove_at-pair-requires
cut_field-remove_at-pair-requires t c =
    let here : place c.args.document c.args.part.now ≡ Some c.in-Some.at =
    ap (place c.args.document) (sym c.as_str.ensures.name) ∙ sym c.position.ensures ∙ c.in-Some.is in
    omega (
      arith,
      ap pairs_len c.take_field-old.ensures.after,
      pairs_len-with_value c.args.document c.in-Some.at (scalar null),
      place_within c.args.document c.args.part.now c.in-Some.at here,
    )

pub cut_field-returns-in_default-left : goal.cut_field-returns-in_default-left
cut_field-returns-in_default-left t c =
    let here : place c.args.document c.args.part.now ≡ Some c.in-Some.at =
    ap (place c.args.document) (sym c.as_str.ensures.name) ∙ sym c.position.ensures ∙ c.in-Some.is in
    record {
      left =
          c.remove_at-pair.ensures.rest
          ∙ ap (λ ps. without_pair ps c.in-Some.at) c.take_field-old.ensures.after
          ∙ without_pair-with_value c.args.document c.in-Some.at (scalar null)
          ∙ sym (cut-place c.args.document c.args.part.now c.in-Some.at here)
          ∙ sym (cut_field-there (cut_off c.args.rest.now) c.args.part.now c.args.document c.in-Some.at
          (tree c.take_field-old.result) None here c.take_field-old.ensures.value (sym c.cut-left.ensures.left ∙ ap (option_map tree) c.in_default-left.is));
      taken = c.cut-left.ensures.taken
          ∙ sym (ap (option_and_then (value_at c.args.rest.now))
          (place_value c.args.document c.args.part.now c.in-Some.at (tree c.take_field-old.result) here c.take_field-old.ensures.value));
    }

pub cut_field-returns : goal.cut_field-returns
cut_field-returns t c =
    let here : place c.args.document c.args.part.now ≡ Some c.in-Some.at =
    ap (place c.args.document) (sym c.as_str.ensures.name) ∙ sym c.position.ensures ∙ c.in-Some.is in
    let left : Tree = tree c.in-Some-left.left in
    record {
      left =
          c.put_field.ensures
          ∙ ap (λ ps. with_value ps c.in-Some.at left) c.take_field-old.ensures.after
          ∙ with_value-twice c.args.document c.in-Some.at (scalar null) left
          ∙ sym (put-place c.args.document c.args.part.now left c.in-Some.at here)
          ∙ sym (cut_field-there (cut_off c.args.rest.now) c.args.part.now c.args.document c.in-Some.at (tree c.take_field-old.result)
          (Some left) here c.take_field-old.ensures.value (sym c.cut-left.ensures.left ∙ ap (option_map tree) c.in-Some-left.is));
      taken = c.cut-left.ensures.taken
          ∙ sym (ap (option_and_then (value_at c.args.rest.now))
          (place_value c.args.document c.args.part.now c.in-Some.at (tree c.take_field-old.result) here c.take_field-old.ensures.value));
    }

pub cut_field-returns-in_default : goal.cut_field-returns-in_default
cut_field-returns-in_default t c =
    let absent : place c.args.document c.args.part.now ≡ None =
    ap (place c.args.document) (sym c.as_str.ensures.name) ∙ sym c.position.ensures ∙ c.in_default.is in
    record {
      left = sym (cut_field-absent (cut_off c.args.rest.now) c.args.part.now c.args.document absent);
      taken = sym (ap (option_and_then (value_at c.args.rest.now)) (place-absent c.args.document c.args.part.now absent).1);
    }

pub cut_item-put_item-requires-clause-levels : goal.cut_item-put_item-requires-clause-levels
cut_item-put_item-requires-clause-levels t c =
    omega (
      arith,
      cut_off-levels c.args.rest.now (tree c.take_item-old.result) (tree c.in-Some-left.left)
          (sym c.cut-left.ensures.left ∙ ap (option_map tree) c.in-Some-left.is),
      c.take_item-old.ensures.levels,
    )

pub cut_item-put_item-requires-clause-there : goal.cut_item-put_item-requires-clause-there
cut_item-put_item-requires-clause-there t c =
    omega (arith, ap items_len c.take_item-old.ensures.after, items_len-with_item c.args.array c.in-Some.at (scalar null))

pub cut_item-returns : goal.cut_item-returns
cut_item-returns t c =
    let e : option_map (min 18446744073709551615) (index_of c.args.part.now) ≡ Some c.in-Some.at = sym c.index.ensures ∙ c.in-Some.is in
    let left : Tree = tree c.in-Some-left.left in
    let room : items_len c.args.array ≤ 18446744073709551615 = omega arith in
    let near : c.in-Some.at < items_len c.args.array = omega arith in
    record {
      left =
          c.put_item.ensures
          ∙ ap (λ ts. with_item ts c.in-Some.at left) c.take_item-old.ensures.after
          ∙ with_item-twice c.args.array c.in-Some.at (scalar null) left
          ∙ sym (cut_item-there (cut_off c.args.rest.now) c.args.array 18446744073709551615 c.in-Some.at (index_of c.args.part.now) e room
          (tree c.take_item-old.result) (Some left) near c.take_item-old.ensures.value (sym c.cut-left.ensures.left ∙ ap (option_map tree) c.in-Some-left.is));
      taken = c.cut-left.ensures.taken
          ∙ sym (ap (option_and_then (value_at c.args.rest.now))
          (named-there c.args.array 18446744073709551615 c.in-Some.at (index_of c.args.part.now) e room
          (tree c.take_item-old.result) near c.take_item-old.ensures.value));
    }

pub cut_item-returns-in_default-left : goal.cut_item-returns-in_default-left
cut_item-returns-in_default-left t c =
    let e : option_map (min 18446744073709551615) (index_of c.args.part.now) ≡ Some c.in-Some.at = sym c.index.ensures ∙ c.in-Some.is in
    let room : items_len c.args.array ≤ 18446744073709551615 = omega arith in
    let near : c.in-Some.at < items_len c.args.array = omega arith in
    record {
      left =
          c.take_item-old.ensures.after
          ∙ sym (cut_item-there (cut_off c.args.rest.now) c.args.array 18446744073709551615 c.in-Some.at (index_of c.args.part.now) e room
          (tree c.take_item-old.result) None near c.take_item-old.ensures.value (sym c.cut-left.ensures.left ∙ ap (option_map tree) c.in_default-left.is));
      taken = c.cut-left.ensures.taken
          ∙ sym (ap (option_and_then (value_at c.args.rest.now))
          (named-there c.args.array 18446744073709551615 c.in-Some.at (index_of c.args.part.now) e room
          (tree c.take_item-old.result) near c.take_item-old.ensures.value));
    }

pub cut_item-returns-in_default : goal.cut_item-returns-in_default
cut_item-returns-in_default t c =
    let none = index-none 18446744073709551615 (index_of c.args.part.now) (sym c.index.ensures ∙ c.in_default.is) in
    record {
      left = sym (ap (λ o. cut_item (cut_off c.args.rest.now) o c.args.array) none);
      taken = sym (ap (λ o. option_and_then (value_at c.args.rest.now) (option_and_then (item_at c.args.array) o)) none);
    }

pub cut_item-returns-then-len-at : goal.cut_item-returns-then-len-at
cut_item-returns-then-len-at t c =
    let e : option_map (min 18446744073709551615) (index_of c.args.part.now) ≡ Some c.in-Some.at = sym c.index.ensures ∙ c.in-Some.is in
    let room : items_len c.args.array ≤ 18446744073709551615 = omega arith in
    let beyond : items_len c.args.array ≤ c.in-Some.at = omega arith in
    record {
      left = sym (cut_item-past (cut_off c.args.rest.now) c.args.array 18446744073709551615 c.in-Some.at (index_of c.args.part.now) e room beyond);
      taken = sym (ap (option_and_then (value_at c.args.rest.now))
          (named-past c.args.array 18446744073709551615 c.in-Some.at (index_of c.args.part.now) e room beyond));
    }
