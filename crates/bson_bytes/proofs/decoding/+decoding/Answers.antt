use Rattle.std.proofs.Common.{◌≡◌, ℕ, List, length, Ok, sym, ap, subst, ◌∙◌, arith}
use Rattle.std.proofs.lemmas.Result.{err_from_is_err_and}
use Rattle.bson.specs.declared.value.Value.{Value}
use Rattle.bson.specs.declared.value.Pair.{Pair}
use Rattle.bson.specs.Tree.{Tree}
use Rattle.bson.specs.View.{tree, pairs_of, items_of, names_of}
use Rattle.outcome.specs.Outcome.{Fails}
use Rattle.bson.specs.Lookup.{stands_in}
use Rattle.bson_bytes.specs.Decoding.{Read, element_by, item_by, value_at, pairs_in, items_in}
use Rattle.bson_bytes.specs.declared.fault.BsonFault.TheVariants as faults
use Rattle.bson.specs.Lawful.{pairs_levels, items_levels}
use Rattle.bson_bytes.specs.Checked.{PairsSoFar}
use Rattle.bson.proofs.PushLaws.{pairs_levels-push, items_levels-push}
use Rattle.bson_bytes.proofs.ReadLoopLaws.{ItemsSoFar, pairs_start, items_start, pairs_pushed, pair_shorter}
use Rattle.bson.proofs.PushLaws.{names_pushed}
use Rattle.bson_bytes.proofs.ReadLoopLaws.{pairs_fail, pairs_over, items_pushed, items_shorter, items_fail, items_over, element_named, document_holds}
use Rattle.bson_bytes.proofs.ReadLoopLaws.{array_holds, document_fails, document_found, array_fails, array_found}
use Rattle.bson_bytes.proofs.decoding.+decoding.Goals as goal
use Rattle.bson_bytes.proofs.decoding.+decoding.Goals.{read_items-After-drop-items, read_items-In_ok-push, read_items-In_default, read_pairs-After-drop-pairs}
use Rattle.bson_bytes.proofs.decoding.+decoding.Goals.{read_pairs-In_ok-push, read_pairs-In_default}

-- ---- arrays

pub read_items-items-init : goal.read_items-items-init
read_items-items-init t c = (
  subst (λ (ws : List Value). ItemsSoFar c.args.more (items_of ws) (length ws) c.args.content.now (items_in (value_at c.args.more) c.args.content.now))
      (sym c.new-items.ensures.items) (items_start c.args.more c.args.content.now (λ i. omega (arith, c.type_inv.content i))),
  sym (ap (λ (ws : List Value). items_levels (items_of ws)) c.new-items.ensures.items),
)

pub read_items-items-smaller : goal.read_items-items-smaller
read_items-items-smaller t c =
    let at : c.len.result ≡ length c.items.items.items = omega (arith, c.items.items.ok.0) in
    let e = subst
    (λ (i : ℕ). item_by (value_at c.args.more) i c.in-Some.type_byte.now c.in-Some.after.now
    ≡ Ok (tree c.in_ok-item.item, c.in_ok-item.after.now)) at c.in_ok-item.ensures in
    items_shorter c.args.more c.items.items.items c.items.rest.now c.in-Some.type_byte.now c.in-Some.after.now
    (items_in (value_at c.args.more) c.args.content.now) c.in-Some.ensures.cases.0 c.items.invariant.0 c.in_ok-item.item c.in_ok-item.after.now e

pub read_items-items-preserved : goal.read_items-items-preserved
read_items-items-preserved t c =
    let at : c.len.result ≡ length c.items.items.items = omega (arith, c.items.items.ok.0) in
    let e = subst
    (λ (i : ℕ). item_by (value_at c.args.more) i c.in-Some.type_byte.now c.in-Some.after.now
    ≡ Ok (tree c.in_ok-item.item, c.in_ok-item.after.now)) at c.in_ok-item.ensures in
    let next = items_pushed c.args.more c.items.items.items c.items.rest.now c.in-Some.type_byte.now c.in-Some.after.now
    (items_in (value_at c.args.more) c.args.content.now) c.in-Some.ensures.cases.0 c.items.invariant.0 c.in_ok-item.item c.in_ok-item.after.now e in (
      subst (λ (ws : List Value). ItemsSoFar c.args.more (items_of ws) (length ws) c.in_ok-item.after.now (items_in (value_at c.args.more) c.args.content.now))
          (sym c.in_ok-push.ensures.items) next,
      omega (
        arith,
        c.max-levels.ensures,
        c.levels.ensures.levels,
        c.items.invariant.1,
        ap (λ (ws : List Value). items_levels (items_of ws)) c.in_ok-push.ensures.items,
        items_levels-push c.items.items.items c.in_ok-item.item,
      ),
    )

pub read_items-returns-in_err-item : goal.read_items-returns-in_err-item
read_items-returns-in_err-item t c =
    let p = err_from_is_err_and c.from_residual.result c.from_residual.ensures.1 in
    let at : c.len.result ≡ length c.items.items.items = omega (arith, c.items.items.ok.0) in
    let e = subst
    (λ (i : ℕ). Fails faults.Memory c.in_err-item.field-0.0 (item_by (value_at c.args.more) i c.in-Some.type_byte.now c.in-Some.after.now)) at
    c.in_err-item.ensures in
    rw (p.1, p.2)
    (items_fail c.args.more c.items.items.items c.items.rest.now c.in-Some.type_byte.now c.in-Some.after.now
    (items_in (value_at c.args.more) c.args.content.now) c.in-Some.ensures.cases.0 c.items.invariant.0 c.in_err-item.field-0.0 e)

items_whole : (t : ℕ) (c : read_items-In_default t) → items_in (value_at c.args.more) c.args.content.now ≡ Ok (items_of c.items.items.items)
items_whole t c =
    items_over c.args.more c.items.items.items c.items.rest.now
    (items_in (value_at c.args.more) c.args.content.now) c.items.invariant.0 c.in_default.ensures.cases

pub read_items-from_counted-requires : goal.read_items-from_counted-requires
read_items-from_counted-requires t c =
    let holds = array_holds c.args.more c.args.content.now (items_of c.items.items.items) c.requires (λ i. omega (arith, c.type_inv.content i))
    (items_whole t c) in
    record { counted = c.items.invariant.1; lawful = holds }

pub read_items-returns : goal.read_items-returns
read_items-returns t c =
    rw c.from_counted.ensures
    (items_over c.args.more c.items.items.items c.items.rest.now
    (items_in (value_at c.args.more) c.args.content.now) c.items.invariant.0 c.in_default.ensures.cases)

-- ---- documents

pub read_pairs-pairs-init : goal.read_pairs-pairs-init
read_pairs-pairs-init t c = (
  subst (λ (ws : List Pair). PairsSoFar c.args.more (pairs_of ws) (names_of ws) c.args.content.now (pairs_in (value_at c.args.more) c.args.content.now))
      (sym c.new-pairs.ensures.items) (pairs_start c.args.more c.args.content.now (λ i. omega (arith, c.type_inv.content i))),
  sym (ap (λ (ws : List Pair). pairs_levels (pairs_of ws)) c.new-pairs.ensures.items),
  λ name. (λ i. stands_in (c.new-names.ensures i) name) ∙ sym (ap (λ (ws : List Pair). stands_in (names_of ws) name) c.new-pairs.ensures.items),
)

-- the pair that was read
module _ (t : ℕ) (c : read_pairs-In_ok-push t) where
  abbrev pair_read : Pair
  pair_read = record { name = c.in_ok-name-2.name; value = c.in_ok-name.value }

  is_read : element_by (value_at c.args.more) (stands_in (names_of c.pairs.pairs.items)) faults.Repeated c.in-Some.type_byte.now c.in-Some.after.now
      ≡ Ok ((pair_read.name, tree pair_read.value), c.in_ok-name.after.now)
  is_read =
      sym (element_named c.args.more c.in-Some.type_byte.now c.in-Some.after.now c.pairs.names (names_of c.pairs.pairs.items) c.pairs.invariant.2)
      ∙ c.in_ok-name.ensures.gives
      ∙ ap (λ (name : List ℕ). Ok ((name, tree c.in_ok-name.value), c.in_ok-name.after.now)) (sym c.in_ok-name-2.ensures)

pub read_pairs-pairs-smaller : goal.read_pairs-pairs-smaller
read_pairs-pairs-smaller t c =
    pair_shorter c.args.more c.pairs.pairs.items c.pairs.rest.now c.in-Some.type_byte.now c.in-Some.after.now
    (pairs_in (value_at c.args.more) c.args.content.now) c.in-Some.ensures.cases.0 c.pairs.invariant.0 (pair_read t c) c.in_ok-name.after.now (is_read t c)

pub read_pairs-pairs-preserved : goal.read_pairs-pairs-preserved
read_pairs-pairs-preserved t c =
    let next = pairs_pushed c.args.more c.pairs.pairs.items c.pairs.rest.now c.in-Some.type_byte.now c.in-Some.after.now
    (pairs_in (value_at c.args.more) c.args.content.now) c.in-Some.ensures.cases.0 c.pairs.invariant.0 (pair_read t c) c.in_ok-name.after.now (is_read t c) in (
      subst (λ (ws : List Pair). PairsSoFar c.args.more (pairs_of ws) (names_of ws) c.in_ok-name.after.now
          (pairs_in (value_at c.args.more) c.args.content.now)) (sym c.in_ok-push.ensures.items) next,
      omega (
        arith,
        c.max-levels.ensures,
        c.levels.ensures.levels,
        c.pairs.invariant.1,
        ap (λ (ws : List Pair). pairs_levels (pairs_of ws)) c.in_ok-push.ensures.items,
        pairs_levels-push c.pairs.pairs.items (pair_read t c),
      ),
      λ other. names_pushed c.pairs.pairs.items
          (pair_read t c) c.read_pair.new.earlier c.pairs.names c.in_ok-name.name.now c.in_ok-name.ensures.names c.pairs.invariant.2 c.in_ok-name-2.ensures
          other ∙ ap (λ (ws : List Pair). stands_in (names_of ws) other) (sym c.in_ok-push.ensures.items),
    )

pub read_pairs-returns-in_err-name : goal.read_pairs-returns-in_err-name
read_pairs-returns-in_err-name t c =
    let p = err_from_is_err_and c.from_residual.result c.from_residual.ensures.1 in
    let e = subst (λ (read : Read (List ℕ × Tree)). Fails faults.Memory c.in_err-name.field-0.0 read)
    (element_named c.args.more c.in-Some.type_byte.now c.in-Some.after.now c.pairs.names (names_of c.pairs.pairs.items) c.pairs.invariant.2)
    c.in_err-name.ensures.gives in
    rw (p.1, p.2)
    (pairs_fail c.args.more c.pairs.pairs.items c.pairs.rest.now c.in-Some.type_byte.now c.in-Some.after.now
    (pairs_in (value_at c.args.more) c.args.content.now) c.in-Some.ensures.cases.0 c.pairs.invariant.0 c.in_err-name.field-0.0 e)

pairs_whole : (t : ℕ) (c : read_pairs-In_default t) → pairs_in (value_at c.args.more) c.args.content.now ≡ Ok (pairs_of c.pairs.pairs.items)
pairs_whole t c =
    pairs_over c.args.more c.pairs.pairs.items c.pairs.rest.now
    (pairs_in (value_at c.args.more) c.args.content.now) c.pairs.invariant.0 c.in_default.ensures.cases

pub read_pairs-from_counted-requires : goal.read_pairs-from_counted-requires
read_pairs-from_counted-requires t c =
    let holds = document_holds c.args.more c.args.content.now (pairs_of c.pairs.pairs.items) c.requires (λ i. omega (arith, c.type_inv.content i))
    (pairs_whole t c) in
    record { counted = c.pairs.invariant.1; lawful = holds }

pub read_pairs-returns : goal.read_pairs-returns
read_pairs-returns t c =
    rw c.from_counted.ensures
    (pairs_over c.args.more c.pairs.pairs.items c.pairs.rest.now
    (pairs_in (value_at c.args.more) c.args.content.now) c.pairs.invariant.0 c.in_default.ensures.cases)

-- ---- values

pub read_value-returns-in_err-document-in-Document : goal.read_value-returns-in_err-document-in-Document
read_value-returns-in_err-document-in-Document t c =
    let p = err_from_is_err_and c.from_residual-in_err-document-in-Document.result c.from_residual-in_err-document-in-Document.ensures.1 in
    rw (p.1, p.2, c.in-Document.is)
    (document_fails c.in_err-document-in-Document.field-0.0 c.args.more c.args.bytes.now
    (c.in_ok-content-in-Document.content.now, c.in_ok-content-in-Document.rest.now)
    (omega arith) c.in_ok-content-in-Document.ensures.gives c.in_err-document-in-Document.ensures)

pub read_value-returns-in_err-array-in-Array : goal.read_value-returns-in_err-array-in-Array
read_value-returns-in_err-array-in-Array t c =
    let p = err_from_is_err_and c.from_residual-in_err-array-in-Array.result c.from_residual-in_err-array-in-Array.ensures.1 in
    rw (p.1, p.2, c.in-Array.is)
    (array_fails c.in_err-array-in-Array.field-0.0 c.args.more c.args.bytes.now (c.in_ok-content-in-Array.content.now, c.in_ok-content-in-Array.rest.now)
    (omega arith) c.in_ok-content-in-Array.ensures.gives c.in_err-array-in-Array.ensures)

pub read_value-returns-in_ok-document-in-Document : goal.read_value-returns-in_ok-document-in-Document
read_value-returns-in_ok-document-in-Document t c =
    rw c.in-Document.is
    (document_found c.args.more c.args.bytes.now
    (c.in_ok-content-in-Document.content.now, c.in_ok-content-in-Document.rest.now) c.in_ok-document-in-Document.document
    (omega arith) c.in_ok-content-in-Document.ensures.gives c.in_ok-document-in-Document.ensures)

pub read_value-returns-in_ok-array-in-Array : goal.read_value-returns-in_ok-array-in-Array
read_value-returns-in_ok-array-in-Array t c =
    rw c.in-Array.is
    (array_found c.args.more c.args.bytes.now (c.in_ok-content-in-Array.content.now, c.in_ok-content-in-Array.rest.now) c.in_ok-array-in-Array.array
    (omega arith) c.in_ok-content-in-Array.ensures.gives c.in_ok-array-in-Array.ensures)
