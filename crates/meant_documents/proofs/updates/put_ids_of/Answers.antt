use Rattle.std.proofs.Common.{◌+◌, List, drop, subst, arith}
use Rattle.std.specs.Ordering.{is_eq}
use Rattle.std.proofs.lemmas.List.{drop_all}
use Rattle.bson.specs.Tree.{Pairs}
use Rattle.value_order.specs.KeyText.{tree_text}
use Rattle.value_order.specs.Order.{compare}
use Rattle.index.specs.View.{texts_of}
use Rattle.replies.proofs.Steps.{drop_step}
use Rattle.database_model.specs.Documents.{key_of}
use Rattle.database_model.specs.Merging.{has_key_of}
use Rattle.asked_documents.specs.ById.{HasId, TellBeside}
use Rattle.candidate_ids.proofs.IdTextLemmas.{left_all, left_next, left_none}
use Rattle.asked_documents.proofs.SelectsLemmas.{put_none, put_on}
use Rattle.meant_documents.proofs.updates.put_ids_of.Goals as goal

pub documents-init : goal.documents-init
documents-init c = record {
  put = put_none (texts_of c.args.ids.now.items);
  left = left_all HasId (λ (d : Pairs). tree_text (key_of d)) (has_key_of c.args.documents.now) (texts_of c.args.ids.now.items);
}

pub documents-preserved : goal.documents-preserved
documents-preserved c =
    let xs = c.args.documents.now in
    let i = c.documents.document-index in
    let x : Pairs = c.document-item.result in
    let now = texts_of c.documents.ids.items in
    let next = texts_of c.put_id_of.new.ids.items in
    let put = c.in_ok-put_id_of.ensures.put in
    record {
      put = put_on (texts_of c.args.ids.now.items) now next c.documents.invariant.put put;
      left = left_next HasId (λ (d : Pairs). tree_text (key_of d)) (has_key_of xs) (λ d. is_eq (compare (key_of x) (key_of d)))
          (has_key_of (drop (i + 1) xs)) now next put (c.in_ok-put_id_of.ensures.tells c.if-not-branch.false)
          (subst (λ (ys : List Pairs). TellBeside HasId (λ d. tree_text (key_of d)) (has_key_of xs) (has_key_of ys) now)
          (drop_step xs i x c.documents-test.true c.document-item.is) c.documents.invariant.left);
    }

pub returns-then-not-branch-clause-put : goal.returns-then-not-branch-clause-put
returns-then-not-branch-clause-put c =
    put_on (texts_of c.args.ids.now.items) (texts_of c.documents.ids.items)
    (texts_of c.put_id_of.new.ids.items) c.documents.invariant.put c.in_ok-put_id_of.ensures.put

pub returns-clause-put : goal.returns-clause-put
returns-clause-put c = c.documents.invariant.put

pub returns-clause-tells : goal.returns-clause-tells
returns-clause-tells c = λ e.
    let xs = c.args.documents.now in
    let now = texts_of c.documents.ids.items in
    left_none HasId (λ (d : Pairs). tree_text (key_of d)) (has_key_of xs) now
    (subst (λ (ys : List Pairs). TellBeside HasId (λ d. tree_text (key_of d)) (has_key_of xs) (has_key_of ys) now)
    (drop_all c.documents.document-index xs (omega (arith, c.documents-test.false))) c.documents.invariant.left)
