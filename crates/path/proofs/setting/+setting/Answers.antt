use Rattle.std.proofs.Common.{◌≡◌, ◌<◌, ◌+◌, ◌-◌, take, drop, Some, None, Ok, Err, length, min, ap, sym, ◌∙◌, arith}
use Rattle.std.specs.Prelude.{option_map}
use Rattle.bson.specs.Tree.{Tree, scalar, null, Pairs, Items}
use Rattle.bson.specs.View.{tree}
use Rattle.bson.specs.Edits.{place, pairs_len, with_value, items_len, with_item}
use Rattle.bson.specs.EditPlaces.{pairs_len-with_value, with_value-twice, with_item-twice}
use Rattle.bson.specs.EditsLaws.{place-absent, put-place, put-absent, items_len-items_of}
use Rattle.path.specs.Parts.{index_of}
use Rattle.path.specs.Edits.{write}
use Rattle.path.proofs.IndexLemmas.{write_item-there, write_item-new, write_item-far, put_item-within, put_item-end, items_len-with_item}
use Rattle.path.proofs.WalkLemmas.{place_within, write_field-there, write_field-new, refused, write-refused, first_and_rest}
use Rattle.path.proofs.setting.+setting.Goals as goal
use Rattle.path.proofs.setting.+setting.Goals.{write_field-in-Some+in_ok-value-in-Some, write_field-in-None+in_ok-value-in-None+in_ok-add_field-in-None}

pub write_field-take_field-old-requires : goal.write_field-take_field-old-requires
write_field-take_field-old-requires g t c =
    let here : place c.args.document c.args.part.now ≡ Some c.in-Some.at =
    ap (place c.args.document) (sym c.as_str.ensures.name) ∙ sym c.position.ensures ∙ c.in-Some.is in
    place_within c.args.document c.args.part.now c.in-Some.at here

pub write_field-put_field-requires-clause-there : goal.write_field-put_field-requires-clause-there
write_field-put_field-requires-clause-there g t c =
    let here : place c.args.document c.args.part.now ≡ Some c.in-Some.at =
    ap (place c.args.document) (sym c.as_str.ensures.name) ∙ sym c.position.ensures ∙ c.in-Some.is in
    omega (
      arith,
      ap pairs_len c.take_field-old.ensures.after,
      pairs_len-with_value c.args.document c.in-Some.at (scalar null),
      place_within c.args.document c.args.part.now c.in-Some.at here,
    )

pub write_field-add_field-requires-clause-new : goal.write_field-add_field-requires-clause-new
write_field-add_field-requires-clause-new g t c =
    let absent : place c.args.document c.args.part.now ≡ None =
    ap (place c.args.document) (sym c.as_str.ensures.name) ∙ sym c.position.ensures ∙ c.in-None.is in
    (place-absent c.args.document c.args.part.now absent).0

pub write_field-returns-in_err-value-in-Some : goal.write_field-returns-in_err-value-in-Some
write_field-returns-in_err-value-in-Some g t c =
    let here : place c.args.document c.args.part.now ≡ Some c.in-Some.at =
    ap (place c.args.document) (sym c.as_str.ensures.name) ∙ sym c.position.ensures ∙ c.in-Some.is in
    refused (λ (d : Pairs). d) _ c.from_residual.result c.in_err-value-in-Some.field-0.0 c.from_residual.ensures.1
    (λ known. write_field-there (write (g.N.NewValue.made c.args.new) c.args.rest.now) c.args.part.now c.args.document c.in-Some.at
    (tree c.take_field-old.result) (Err c.in_err-value-in-Some.field-0.0) here c.take_field-old.ensures.value (c.in_err-value-in-Some.ensures.value known))

pub write_field-returns-in_err-value-in-None : goal.write_field-returns-in_err-value-in-None
write_field-returns-in_err-value-in-None g t c =
    let absent : place c.args.document c.args.part.now ≡ None =
    ap (place c.args.document) (sym c.as_str.ensures.name) ∙ sym c.position.ensures ∙ c.in-None.is in
    refused (λ (d : Pairs). d) _ c.from_residual-in_err-value-in-None.result c.in_err-value-in-None.field-0.0 c.from_residual-in_err-value-in-None.ensures.1
    (λ known. write_field-new (write (g.N.NewValue.made c.args.new) c.args.rest.now) c.args.part.now c.args.document
    (Err c.in_err-value-in-None.field-0.0) absent (c.in_err-value-in-None.ensures.value known))

pub write_field-returns : goal.write_field-returns
write_field-returns g t c =
    elim c.match-position.branch [
      | write_field-in-Some+in_ok-value-in-Some w ↦
          let here : place c.args.document c.args.part.now ≡ Some w.in-Some.at =
          ap (place c.args.document) (sym c.as_str.ensures.name) ∙ sym c.position.ensures ∙ w.in-Some.is in
          let new : Tree = tree w.in_ok-value-in-Some.value in
          rw w.document-is
          (write_field-there (write (g.N.NewValue.made c.args.new) c.args.rest.now) c.args.part.now c.args.document w.in-Some.at (tree w.take_field-old.result)
          (Ok new) here w.take_field-old.ensures.value w.in_ok-value-in-Some.ensures.value
          ∙ ap Ok (put-place c.args.document c.args.part.now new w.in-Some.at here
          ∙ sym (with_value-twice c.args.document w.in-Some.at (scalar null) new)
          ∙ sym (ap (λ ps. with_value ps w.in-Some.at new) w.take_field-old.ensures.after)
          ∙ sym w.put_field.ensures))
      | write_field-in-None+in_ok-value-in-None+in_ok-add_field-in-None w ↦
          let absent : place c.args.document c.args.part.now ≡ None =
          ap (place c.args.document) (sym c.as_str.ensures.name) ∙ sym c.position.ensures ∙ w.in-None.is in
          let new : Tree = tree w.in_ok-value-in-None.value in
          rw w.document-is
          (write_field-new (write (g.N.NewValue.made c.args.new) c.args.rest.now) c.args.part.now c.args.document
          (Ok new) absent w.in_ok-value-in-None.ensures.value
          ∙ ap Ok (put-absent c.args.document c.args.part.now new absent ∙ sym w.in_ok-add_field-in-None.ensures))
    ]

pub write_item-take_item-old-requires : goal.write_item-take_item-old-requires
write_item-take_item-old-requires g t c =
    let counted : items_len c.args.array ≡ length c.items-len.result.now =
    ap items_len (sym c.items-len.ensures.items) ∙ items_len-items_of c.items-len.result.now in
    omega (arith, counted)

pub write_item-put_item-requires-clause-there : goal.write_item-put_item-requires-clause-there
write_item-put_item-requires-clause-there g t c =
    let counted : items_len c.args.array ≡ length c.items-len.result.now =
    ap items_len (sym c.items-len.ensures.items) ∙ items_len-items_of c.items-len.result.now in
    omega (arith, counted, ap items_len c.take_item-old.ensures.after, items_len-with_item c.args.array c.in-Some.at (scalar null))

pub write_item-pad-requires : goal.write_item-pad-requires
write_item-pad-requires g t c =
    let counted : items_len c.args.array ≡ length c.items-len.result.now =
    ap items_len (sym c.items-len.ensures.items) ∙ items_len-items_of c.items-len.result.now in
    omega (arith, counted)

pub write_item-returns-then-len-at : goal.write_item-returns-then-len-at
write_item-returns-then-len-at g t c = λ known.
    let e : option_map (min 18446744073709551615) (index_of c.args.part.now) ≡ Some c.in-Some.at = sym c.index.ensures ∙ c.in-Some.is in
    let counted : items_len c.args.array ≡ length c.items-len.result.now =
    ap items_len (sym c.items-len.ensures.items) ∙ items_len-items_of c.items-len.result.now in
    let room : items_len c.args.array + 1000 < 18446744073709551615 = omega (arith, counted) in
    write_item-far (write (g.N.NewValue.made c.args.new) c.args.rest.now) c.args.array 18446744073709551615 c.in-Some.at (index_of c.args.part.now) e room
    (omega (arith, counted))

pub write_item-returns-in_err-value : goal.write_item-returns-in_err-value
write_item-returns-in_err-value g t c =
    let e : option_map (min 18446744073709551615) (index_of c.args.part.now) ≡ Some c.in-Some.at = sym c.index.ensures ∙ c.in-Some.is in
    let counted : items_len c.args.array ≡ length c.items-len.result.now =
    ap items_len (sym c.items-len.ensures.items) ∙ items_len-items_of c.items-len.result.now in
    let room : items_len c.args.array + 1000 < 18446744073709551615 = omega (arith, counted) in
    refused (λ (d : Items). d) _ c.from_residual.result c.in_err-value.field-0.0 c.from_residual.ensures.1
    (λ known. write_item-there (write (g.N.NewValue.made c.args.new) c.args.rest.now) c.args.array 18446744073709551615 c.in-Some.at
    (index_of c.args.part.now) e room (tree c.take_item-old.result) (Err c.in_err-value.field-0.0) (omega (arith, counted)) c.take_item-old.ensures.value
    (c.in_err-value.ensures.value known))

pub write_item-returns-in_err-value-2 : goal.write_item-returns-in_err-value-2
write_item-returns-in_err-value-2 g t c =
    let e : option_map (min 18446744073709551615) (index_of c.args.part.now) ≡ Some c.in-Some.at = sym c.index.ensures ∙ c.in-Some.is in
    let counted : items_len c.args.array ≡ length c.items-len.result.now =
    ap items_len (sym c.items-len.ensures.items) ∙ items_len-items_of c.items-len.result.now in
    let room : items_len c.args.array + 1000 < 18446744073709551615 = omega (arith, counted) in
    refused (λ (d : Items). d) _ c.from_residual-in_err-value-2.result c.in_err-value-2.field-0.0 c.from_residual-in_err-value-2.ensures.1
    (λ known. write_item-new (write (g.N.NewValue.made c.args.new) c.args.rest.now) c.args.array 18446744073709551615 c.in-Some.at
    (index_of c.args.part.now) e room (Err c.in_err-value-2.field-0.0) (omega (arith, counted)) (omega (arith, counted)) (c.in_err-value-2.ensures.value known))

pub write_item-returns-then-at-len : goal.write_item-returns-then-at-len
write_item-returns-then-at-len g t c =
    let e : option_map (min 18446744073709551615) (index_of c.args.part.now) ≡ Some c.in-Some.at = sym c.index.ensures ∙ c.in-Some.is in
    let counted : items_len c.args.array ≡ length c.items-len.result.now =
    ap items_len (sym c.items-len.ensures.items) ∙ items_len-items_of c.items-len.result.now in
    let room : items_len c.args.array + 1000 < 18446744073709551615 = omega (arith, counted) in
    let near : c.in-Some.at < items_len c.args.array = omega (arith, counted) in
    let new : Tree = tree c.in_ok-value.value in
    write_item-there (write (g.N.NewValue.made c.args.new) c.args.rest.now) c.args.array 18446744073709551615 c.in-Some.at (index_of c.args.part.now) e room
    (tree c.take_item-old.result) (Ok new) near c.take_item-old.ensures.value c.in_ok-value.ensures.value
    ∙ ap Ok (put_item-within c.args.array c.in-Some.at new near
    ∙ sym (with_item-twice c.args.array c.in-Some.at (scalar null) new)
    ∙ sym (ap (λ ts. with_item ts c.in-Some.at new) c.take_item-old.ensures.after)
    ∙ sym c.put_item.ensures)

pub write_item-returns : goal.write_item-returns
write_item-returns g t c =
    let e : option_map (min 18446744073709551615) (index_of c.args.part.now) ≡ Some c.in-Some.at = sym c.index.ensures ∙ c.in-Some.is in
    let counted : items_len c.args.array ≡ length c.items-len.result.now =
    ap items_len (sym c.items-len.ensures.items) ∙ items_len-items_of c.items-len.result.now in
    let room : items_len c.args.array + 1000 < 18446744073709551615 = omega (arith, counted) in
    let new : Tree = tree c.in_ok-value-2.value in
    write_item-new (write (g.N.NewValue.made c.args.new) c.args.rest.now) c.args.array 18446744073709551615 c.in-Some.at (index_of c.args.part.now) e room
    (Ok new) (omega (arith, counted)) (omega (arith, counted)) c.in_ok-value-2.ensures.value
    ∙ ap Ok (sym (c.in_ok-pad.ensures.items new)
    ∙ put_item-end c.pad.new.array c.in-Some.at new c.in_ok-pad.ensures.len
    ∙ sym c.in_ok-add_item.ensures)

pub write-returns-in_err-write_item-in-Some-Array : goal.write-returns-in_err-write_item-in-Some-Array
write-returns-in_err-write_item-in-Some-Array g t c =
    refused tree _ c.from_residual-in_err-write_item-in-Some-Array.result c.in_err-write_item-in-Some-Array.field-0.0
    c.from_residual-in_err-write_item-in-Some-Array.ensures.1
    (λ known. write-refused (g.N.NewValue.made c.args.new) c.args.parts.now (take (length c.args.parts.now - 1) (drop 1 c.args.parts.now)) c.part-item.result
    (option_map tree c.args.old) c.in-Some-Array.array c.in_err-write_item-in-Some-Array.field-0.0
    (first_and_rest c.args.parts.now c.part-item.result c.in-len1-up.len_at_least c.part-item.is) (cc) (c.in_err-write_item-in-Some-Array.ensures known))
