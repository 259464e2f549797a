use Rattle.std.proofs.Common.{ℕ, List, ◌++◌, length, refl, ap, ◌∙◌, arith, rules}
use Rattle.std.proofs.lemmas.Bool.{ltb-true}
use Rattle.bson.specs.Spelling.{pairs_bytes}
use Rattle.bson_bytes.proofs.DistinctLaws.{new_here}
use Rattle.std.proofs.lemmas.Result.{err_from_is_err_and}
use Rattle.bson_bytes.proofs.RawLaws.{Elements-spelled}
use Rattle.bson_bytes.proofs.CheckLaws.{pairs_unmarked, marks_spelled, pair_marked, pair_unmarked}
use Rattle.bson_bytes.proofs.CheckLaws.{pair_counted, before_rest, pair_checked, pair_refused, pairs_passed}
use Rattle.bson_bytes.proofs.CheckLaws.{items_unchecked, item_checked}
use Rattle.bson_bytes.proofs.CheckLaws.{item_refused, items_passed, document_refused, array_refused}
use Rattle.bson_bytes.specs.Marks.{mixed}
use Rattle.bson_bytes.proofs.MarkLaws.{mark_within}
use Rattle.bson_bytes.proofs.checking.+checking.Goals as goal

-- ---- arrays

pub check_items-items-init : goal.check_items-items-init
check_items-items-init t c = items_unchecked c.args.more c.args.content.now (λ i. omega (arith, c.type_inv.content i))

pub check_items-returns-in_err-rest : goal.check_items-returns-in_err-rest
check_items-returns-in_err-rest t c =
    let p = err_from_is_err_and c.from_residual.result c.from_residual.ensures.1 in
    rw (p.1, p.2)
    (item_refused c.args.more c.args.content.now c.items.rest.now c.items.i c.in-Some.type_byte.now c.in-Some.after.now c.items.invariant
    c.in-Some.ensures.cases.0 c.in_err-rest.field-0.0 c.in_err-rest.ensures)

pub check_items-items-smaller : goal.check_items-items-smaller
check_items-items-smaller t c =
    (item_checked c.args.more c.args.content.now c.items.rest.now c.items.i c.in-Some.type_byte.now c.in-Some.after.now c.items.invariant
    c.in-Some.ensures.cases.0 c.in_ok-rest.rest.now c.in_ok-rest.ensures).1

pub check_items-items-preserved : goal.check_items-items-preserved
check_items-items-preserved t c =
    (item_checked c.args.more c.args.content.now c.items.rest.now c.items.i c.in-Some.type_byte.now c.in-Some.after.now c.items.invariant
    c.in-Some.ensures.cases.0 c.in_ok-rest.rest.now c.in_ok-rest.ensures).0

pub check_items-returns : goal.check_items-returns
check_items-returns t c = items_passed c.args.more c.args.content.now c.items.rest.now c.items.i c.items.invariant c.in_default.ensures.cases

-- ---- documents

pub check_pairs-pairs-init : goal.check_pairs-pairs-init
check_pairs-pairs-init t c = (pairs_unmarked c.args.more c.args.content.now _ (λ i. omega (arith, c.type_inv.content i)) refl, omega arith)

pub check_pairs-check_pair-requires : goal.check_pairs-check_pair-requires
check_pairs-check_pair-requires t c =
    let k = c.pairs.invariant.0 in
    let before =
    before_rest c.args.more c.args.content.now c.pairs.rest.now c.split_at.result.0.now _ k.pairs.checked
    (omega arith) c.split_at.ensures.front c.requires.more c.requires.short in (
      search rules,
      (
        c.requires.more,
        (
          Elements-spelled c.split_at.result.0.now k.pairs.checked.front before,
          marks_spelled c.args.more c.args.content.now c.pairs.rest.now c.split_at.result.0.now c.pairs.count c.pairs.marks c.in-Some.type_byte.now
              c.in-Some.after.now k c.in-Some.ensures.cases.0 before,
        ),
      ),
    )

pub check_pairs-returns-in_err-mark : goal.check_pairs-returns-in_err-mark
check_pairs-returns-in_err-mark t c =
    let p = err_from_is_err_and c.from_residual.result c.from_residual.ensures.1 in
    let k = c.pairs.invariant.0 in
    let before =
    before_rest c.args.more c.args.content.now c.pairs.rest.now c.split_at.result.0.now _ k.pairs.checked
    (omega arith) c.split_at.ensures.front c.requires.more c.requires.short in
    rw (p.1, p.2)
    (pair_unmarked c.args.more c.args.content.now c.pairs.rest.now c.split_at.result.0.now c.pairs.count c.pairs.marks c.in-Some.type_byte.now
    c.in-Some.after.now k c.in-Some.ensures.cases.0 before c.in_err-mark.field-0.0 c.in_err-mark.ensures.gives)

pub check_pairs-bounds-marks-mark : goal.check_pairs-bounds-marks-mark
check_pairs-bounds-marks-mark t c =
    let within = mark_within (mixed 0 c.in_ok-mark.field-0-0-0.now) in
    omega (arith, c.in_ok-mark.ensures.mark, within, c.pairs.invariant.0.places)

pub check_pairs-pairs-smaller : goal.check_pairs-pairs-smaller
check_pairs-pairs-smaller t c =
    let k = c.pairs.invariant.0 in
    let before =
    before_rest c.args.more c.args.content.now c.pairs.rest.now c.split_at.result.0.now _ k.pairs.checked
    (omega arith) c.split_at.ensures.front c.requires.more c.requires.short in
    (pair_marked c.args.more c.args.content.now c.pairs.rest.now c.split_at.result.0.now c.pairs.count c.pairs.marks c.in-Some.type_byte.now
    c.in-Some.after.now k c.in-Some.ensures.cases.0 before c.in_ok-mark.field-0-0-0.now c.in_ok-mark.after.now c.in_ok-mark.mark c.in_ok-mark.ensures.mark
    c.in_ok-mark.ensures.gives).1

pub check_pairs-pairs-preserved : goal.check_pairs-pairs-preserved
check_pairs-pairs-preserved t c =
    let k = c.pairs.invariant.0 in
    let before =
    before_rest c.args.more c.args.content.now c.pairs.rest.now c.split_at.result.0.now _ k.pairs.checked
    (omega arith) c.split_at.ensures.front c.requires.more c.requires.short in (
      (pair_marked c.args.more c.args.content.now c.pairs.rest.now c.split_at.result.0.now c.pairs.count c.pairs.marks c.in-Some.type_byte.now
          c.in-Some.after.now k c.in-Some.ensures.cases.0 before c.in_ok-mark.field-0-0-0.now c.in_ok-mark.after.now c.in_ok-mark.mark
          c.in_ok-mark.ensures.mark c.in_ok-mark.ensures.gives).0,
      omega arith,
    )

pub check_pairs-returns : goal.check_pairs-returns
check_pairs-returns t c =
    pairs_passed c.args.more c.args.content.now c.pairs.rest.now c.pairs.invariant.0.pairs.checked c.in_default.ensures.cases

-- ---- documents of more than a few elements

pub check_further-check_later-requires : goal.check_further-check_later-requires
check_further-check_later-requires t c =
    let before =
    before_rest c.args.more c.args.content.now c.pairs.rest.now c.split_at.result.0.now _ c.pairs.invariant.checked
    (omega arith) c.split_at.ensures.front c.requires.more c.requires.short in (
      search rules,
      (
        c.requires.more,
        (
          Elements-spelled c.split_at.result.0.now c.pairs.invariant.checked.front before,
          λ known k x kinded read.
              new_here c.args.content.now c.split_at.result.0.now c.in-Some.after.now c.in-Some.type_byte.now c.count_of_many-distinct.result c.pairs.count
              c.pairs.invariant.checked.front k x
              (c.pairs.invariant.checked.parts
              ∙ ap (λ (xs : List ℕ). pairs_bytes c.pairs.invariant.checked.front ++ xs) c.in-Some.ensures.cases.0) c.pairs.invariant.checked.lawful
              (omega (arith, ap length before.spelled, before.short)) before c.pairs.invariant.counted c.count_of_many-distinct.ensures
              (ltb-true c.pairs.count c.count_of_many-distinct.result known) kinded read,
        ),
      ),
    )

pub check_further-returns-in_err-rest : goal.check_further-returns-in_err-rest
check_further-returns-in_err-rest t c =
    let p = err_from_is_err_and c.from_residual.result c.from_residual.ensures.1 in
    let before =
    before_rest c.args.more c.args.content.now c.pairs.rest.now c.split_at.result.0.now _ c.pairs.invariant.checked
    (omega arith) c.split_at.ensures.front c.requires.more c.requires.short in
    rw (p.1, p.2)
    (pair_refused c.args.more c.args.content.now c.pairs.rest.now c.split_at.result.0.now c.in-Some.type_byte.now c.in-Some.after.now c.pairs.invariant.checked
    c.in-Some.ensures.cases.0 before c.in_err-rest.field-0.0 c.in_err-rest.ensures)

pub check_further-pairs-smaller : goal.check_further-pairs-smaller
check_further-pairs-smaller t c =
    let before =
    before_rest c.args.more c.args.content.now c.pairs.rest.now c.split_at.result.0.now _ c.pairs.invariant.checked
    (omega arith) c.split_at.ensures.front c.requires.more c.requires.short in
    (pair_checked c.args.more c.args.content.now c.pairs.rest.now c.split_at.result.0.now c.in-Some.type_byte.now c.in-Some.after.now c.pairs.invariant.checked
    c.in-Some.ensures.cases.0 before c.in_ok-rest.rest.now c.in_ok-rest.ensures).1

pub check_further-pairs-preserved : goal.check_further-pairs-preserved
check_further-pairs-preserved t c =
    let before =
    before_rest c.args.more c.args.content.now c.pairs.rest.now c.split_at.result.0.now _ c.pairs.invariant.checked
    (omega arith) c.split_at.ensures.front c.requires.more c.requires.short in
    (pair_counted c.args.more c.args.content.now c.pairs.rest.now c.split_at.result.0.now c.in-Some.type_byte.now c.in-Some.after.now c.pairs.invariant.checked
    c.in-Some.ensures.cases.0 before c.pairs.count c.in_ok-rest.rest.now c.pairs.invariant.counted c.pairs.invariant.within c.in_ok-rest.ensures)

pub check_further-returns : goal.check_further-returns
check_further-returns t c = pairs_passed c.args.more c.args.content.now c.pairs.rest.now c.pairs.invariant.checked c.in_default.ensures.cases

-- ---- values

pub check_value-returns-in_err-check_pairs-in-Document : goal.check_value-returns-in_err-check_pairs-in-Document
check_value-returns-in_err-check_pairs-in-Document t c =
    let p = err_from_is_err_and c.from_residual-in_err-check_pairs-in-Document.result c.from_residual-in_err-check_pairs-in-Document.ensures.1 in
    rw (p.1, p.2, c.in-Document.is)
    (document_refused c.in_err-check_pairs-in-Document.field-0.0 c.args.more c.args.bytes.now
    (c.in_ok-content-in-Document.content.now, c.in_ok-content-in-Document.rest.now)
    (omega arith) c.in_ok-content-in-Document.ensures.gives c.in_err-check_pairs-in-Document.ensures)

pub check_value-returns-in_err-check_items-in-Array : goal.check_value-returns-in_err-check_items-in-Array
check_value-returns-in_err-check_items-in-Array t c =
    let p = err_from_is_err_and c.from_residual-in_err-check_items-in-Array.result c.from_residual-in_err-check_items-in-Array.ensures.1 in
    rw (p.1, p.2, c.in-Array.is)
    (array_refused c.in_err-check_items-in-Array.field-0.0 c.args.more c.args.bytes.now
    (c.in_ok-content-in-Array.content.now, c.in_ok-content-in-Array.rest.now)
    (omega arith) c.in_ok-content-in-Array.ensures.gives c.in_err-check_items-in-Array.ensures)

-- ---- elements

pub check_pair-bounds-marks-mark : goal.check_pair-bounds-marks-mark
check_pair-bounds-marks-mark t c =
    let within = mark_within (mixed 0 c.in-Ok.found.0.0.now) in
    omega (arith, c.in-Ok.ensures.mark, within)

pub check_later-is_repeated-requires-clause-new : goal.check_later-is_repeated-requires-clause-new
check_later-is_repeated-requires-clause-new t c =
    λ known. c.requires.new known c.in_ok-kind.kind (c.in_ok-name.name.now, c.in_ok-name.rest.now) c.in_ok-kind.ensures c.in_ok-name.ensures
