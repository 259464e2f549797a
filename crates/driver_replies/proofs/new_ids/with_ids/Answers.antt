use Rattle.std.proofs.Common.{◌∙◌, ap, ℕ, List}
use Rattle.bson.specs.Tree.{Tree, item, no_items, append_items}
use Rattle.bson.specs.View.{tree}
use Rattle.bson.specs.declared.value.Value.{Value}
use Rattle.driver_replies.specs.NewIds.{value_with_id}
use Rattle.driver_replies.specs.Writes.{fresh_id}
use Rattle.driver_replies.proofs.IndexLemmas.{entry_flat}
use Rattle.driver_replies.proofs.NewIdLemmas.{given_one, given_all}
use Rattle.driver_replies.proofs.new_ids.with_ids.Goals as goal

pub documents-preserved : goal.documents-preserved
documents-preserved c = record {
  left =
      given_one c.documents.given c.add.new.array _ c.documents.next c.next-next.result c.args.documents.now c.documents.document-index c.document-item.result
      c.documents-test.true
      (c.in_ok-add.ensures ∙ ap (λ (t : Tree). append_items c.documents.given (item t no_items))
      (c.in_ok-value_with_id.ensures.is
      ∙ ap (λ (id : List ℕ). value_with_id id (tree c.document-item.result)) c.first.ensures
      ∙ ap (λ (v : Value). value_with_id (fresh_id c.documents.next) (tree v)) c.document-item.is))
      c.next-next.ensures c.documents.invariant.left;
  flat = (entry_flat c.args.documents.now c.documents.document-index c.document-item.result c.documents-test.true c.documents.invariant.flat).1;
}

pub returns : goal.returns
returns c = given_all c.documents.given _ c.documents.next c.args.documents.now c.documents.document-index c.documents-test.false c.documents.invariant.left
