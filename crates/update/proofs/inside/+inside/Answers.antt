use Rattle.std.proofs.Common.{◌≡◌, ◌≤◌, ◌<◌, Some, None, min, map, ap, sym, ◌∙◌, arith}
use Rattle.std.specs.Prelude.{option_map}
use Rattle.bson.specs.Tree.{Tree, scalar, null, document, array}
use Rattle.bson.specs.Lawful.{levels}
use Rattle.bson.specs.View.{tree}
use Rattle.bson.specs.Edits.{place, pairs_len, with_value, items_len, with_item}
use Rattle.bson.specs.EditPlaces.{pairs_len-with_value, with_value-twice, with_item-twice}
use Rattle.bson.specs.EditsLaws.{put-place}
use Rattle.path.specs.Parts.{index_of}
use Rattle.path.proofs.IndexLemmas.{cut_item-there, cut_item-past, items_len-with_item}
use Rattle.path.proofs.WalkLemmas.{place_within, cut_field-there, cut_field-absent, first_and_rest}
use Rattle.update.specs.Inside.{value_after, inside}
use Rattle.update.specs.View.{edit_of}
use Rattle.update.proofs.InsideLemmas.{inside-levels, value_after-levels}
use Rattle.update.proofs.inside.+inside.Goals as goal

pub change_in_field-returns-in_default : goal.change_in_field-returns-in_default
change_in_field-returns-in_default t c =
    let absent : place c.args.document c.args.part.now ≡ None =
    ap (place c.args.document) (sym c.as_str.ensures.name) ∙ sym c.position.ensures ∙ c.in_default.is in
    sym (cut_field-absent (λ u. Some (inside c.args.rest.now (value_after (map edit_of c.args.edits.now)) u)) c.args.part.now c.args.document absent)

pub change_in_field-take_field-old-requires : goal.change_in_field-take_field-old-requires
change_in_field-take_field-old-requires t c =
    let here : place c.args.document c.args.part.now ≡ Some c.in-Some.at =
    ap (place c.args.document) (sym c.as_str.ensures.name) ∙ sym c.position.ensures ∙ c.in-Some.is in
    place_within c.args.document c.args.part.now c.in-Some.at here

pub change_in_field-put_field-requires-clause-there : goal.change_in_field-put_field-requires-clause-there
change_in_field-put_field-requires-clause-there t c =
    let here : place c.args.document c.args.part.now ≡ Some c.in-Some.at =
    ap (place c.args.document) (sym c.as_str.ensures.name) ∙ sym c.position.ensures ∙ c.in-Some.is in
    omega (
      arith,
      ap pairs_len c.take_field-old.ensures.after,
      pairs_len-with_value c.args.document c.in-Some.at (scalar null),
      place_within c.args.document c.args.part.now c.in-Some.at here,
    )

pub change_in_field-put_field-requires-clause-levels : goal.change_in_field-put_field-requires-clause-levels
change_in_field-put_field-requires-clause-levels t c =
    omega (
      arith,
      ap levels c.in_ok-left.ensures,
      inside-levels (value_after (map edit_of c.args.edits.now)) (value_after-levels (map edit_of c.args.edits.now)) c.args.rest.now
          (tree c.take_field-old.result),
      c.take_field-old.ensures.levels,
    )

pub change_in_field-returns : goal.change_in_field-returns
change_in_field-returns t c =
    let here : place c.args.document c.args.part.now ≡ Some c.in-Some.at =
    ap (place c.args.document) (sym c.as_str.ensures.name) ∙ sym c.position.ensures ∙ c.in-Some.is in
    let made = λ (u : Tree). Some (inside c.args.rest.now (value_after (map edit_of c.args.edits.now)) u) in
    c.put_field.ensures
    ∙ ap (λ ps. with_value ps c.in-Some.at (tree c.in_ok-left.left)) c.take_field-old.ensures.after
    ∙ with_value-twice c.args.document c.in-Some.at (scalar null) (tree c.in_ok-left.left)
    ∙ sym (put-place c.args.document c.args.part.now (tree c.in_ok-left.left) c.in-Some.at here)
    ∙ sym (cut_field-there made c.args.part.now c.args.document c.in-Some.at (tree c.take_field-old.result)
    (Some (tree c.in_ok-left.left)) here c.take_field-old.ensures.value (ap Some (sym c.in_ok-left.ensures)))

pub change_in_item-returns-then-len-at : goal.change_in_item-returns-then-len-at
change_in_item-returns-then-len-at t c =
    let e : option_map (min 18446744073709551615) (index_of c.args.part.now) ≡ Some c.in-Some.at = sym c.index.ensures ∙ c.in-Some.is in
    let room : items_len c.args.array ≤ 18446744073709551615 = omega arith in
    let beyond : items_len c.args.array ≤ c.in-Some.at = omega arith in
    sym (cut_item-past (λ u. Some (inside c.args.rest.now (value_after (map edit_of c.args.edits.now)) u))
    c.args.array 18446744073709551615 c.in-Some.at (index_of c.args.part.now) e room beyond)

pub change_in_item-put_item-requires-clause-there : goal.change_in_item-put_item-requires-clause-there
change_in_item-put_item-requires-clause-there t c =
    omega (arith, ap items_len c.take_item-old.ensures.after, items_len-with_item c.args.array c.in-Some.at (scalar null))

pub change_in_item-put_item-requires-clause-levels : goal.change_in_item-put_item-requires-clause-levels
change_in_item-put_item-requires-clause-levels t c =
    omega (
      arith,
      ap levels c.in_ok-left.ensures,
      inside-levels (value_after (map edit_of c.args.edits.now)) (value_after-levels (map edit_of c.args.edits.now)) c.args.rest.now
          (tree c.take_item-old.result),
      c.take_item-old.ensures.levels,
    )

pub change_in_item-returns : goal.change_in_item-returns
change_in_item-returns t c =
    let e : option_map (min 18446744073709551615) (index_of c.args.part.now) ≡ Some c.in-Some.at = sym c.index.ensures ∙ c.in-Some.is in
    let room : items_len c.args.array ≤ 18446744073709551615 = omega arith in
    let near : c.in-Some.at < items_len c.args.array = omega arith in
    let made = λ (u : Tree). Some (inside c.args.rest.now (value_after (map edit_of c.args.edits.now)) u) in
    c.put_item.ensures
    ∙ ap (λ ts. with_item ts c.in-Some.at (tree c.in_ok-left.left)) c.take_item-old.ensures.after
    ∙ with_item-twice c.args.array c.in-Some.at (scalar null) (tree c.in_ok-left.left)
    ∙ sym (cut_item-there made c.args.array 18446744073709551615 c.in-Some.at (index_of c.args.part.now) e room
    (tree c.take_item-old.result) (Some (tree c.in_ok-left.left)) near c.take_item-old.ensures.value (ap Some (sym c.in_ok-left.ensures)))

pub change_inside-returns-in_ok-change_in_field-in-Document : goal.change_inside-returns-in_ok-change_in_field-in-Document
change_inside-returns-in_ok-change_in_field-in-Document t c =
    let parts = first_and_rest c.args.parent.now c.part-item.result c.in-len1-up.len_at_least c.part-item.is in
    ap document c.in_ok-change_in_field-in-Document.ensures
    ∙ sym (λ i. inside (parts i) (value_after (map edit_of c.args.edits.now)) (tree (c.in-Document.is i)))

pub change_inside-returns-in_ok-change_in_item-in-Array : goal.change_inside-returns-in_ok-change_in_item-in-Array
change_inside-returns-in_ok-change_in_item-in-Array t c =
    let parts = first_and_rest c.args.parent.now c.part-item.result c.in-len1-up.len_at_least c.part-item.is in
    ap array c.in_ok-change_in_item-in-Array.ensures
    ∙ sym (λ i. inside (parts i) (value_after (map edit_of c.args.edits.now)) (tree (c.in-Array.is i)))
