use Rattle.std.proofs.Common.{◌≡◌, length, refl, sym, ap, ◌∙◌, arith}
use Rattle.std.specs.declared.cmp.Ordering.TheVariants as orders
use Rattle.bson.specs.Tree.{Pairs}
use Rattle.value_order.specs.Order.{compare}
use Rattle.database_model.specs.Documents.{key_of}
use Rattle.statements.proofs.PlacingLemmas.{goes_before, goes_behind, goes_last, goes_nowhere, placed_from_none}
use Rattle.statements.proofs.statements.place_of.Goals as goal

pub documents-init : goal.documents-init
documents-init c = placed_from_none c.args.new.now c.args.documents.now

pub documents-preserved : goal.documents-preserved
documents-preserved c =
    let d = c.index-documents-place.result in
    let e : compare (key_of c.args.new.now) (key_of d) ≡ orders.Greater =
    ap (λ (x : Pairs). compare (key_of c.args.new.now) (key_of x)) (sym c.document.ensures) ∙ sym c.compare_ids.ensures ∙ c.in-Greater.is in
    goes_behind c.args.new.now c.args.documents.now c.documents.place d c.documents-test.true c.index-documents-place.is c.documents.invariant e

pub returns-in-Less : goal.returns-in-Less
returns-in-Less c =
    let d = c.index-documents-place.result in
    let e : compare (key_of c.args.new.now) (key_of d) ≡ orders.Less =
    ap (λ (x : Pairs). compare (key_of c.args.new.now) (key_of x)) (sym c.document.ensures) ∙ sym c.compare_ids.ensures ∙ c.in-Less.is in (
      omega (arith, c.documents-test.true),
      goes_before c.args.new.now c.args.documents.now c.documents.place d c.documents-test.true c.index-documents-place.is c.documents.invariant e,
    )

pub returns-in-Equal : goal.returns-in-Equal
returns-in-Equal c =
    let d = c.index-documents-place.result in
    let e : compare (key_of c.args.new.now) (key_of d) ≡ orders.Equal =
    ap (λ (x : Pairs). compare (key_of c.args.new.now) (key_of x)) (sym c.document.ensures) ∙ sym c.compare_ids.ensures ∙ c.in-Equal.is in
    goes_nowhere c.args.new.now c.args.documents.now c.documents.place d c.documents-test.true c.index-documents-place.is c.documents.invariant e

pub returns : goal.returns
returns c = (
  omega arith,
  goes_last c.args.new.now c.args.documents.now c.documents.place (length c.args.documents.now) c.documents.invariant c.documents-test.false refl,
)
