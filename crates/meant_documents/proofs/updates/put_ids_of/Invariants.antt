use Rattle.std.specs.Prelude.{drop}
use Rattle.value_order.specs.KeyText.{tree_text}
use Rattle.index.specs.View.{texts_of}
use Rattle.database_model.specs.Documents.{key_of}
use Rattle.database_model.specs.Merging.{has_key_of}
use Rattle.asked_documents.specs.ById.{ArePut, HasId, TellBeside}
use Rattle.meant_documents.proofs.updates.put_ids_of.Given as goal

abbrev pub invariant-documents : goal.invariant-documents
invariant-documents l = record {
  put : ArePut (texts_of l.fn.ids.items) (texts_of l.ids.items);
  left : TellBeside HasId (λ d. tree_text (key_of d)) (has_key_of l.documents) (has_key_of (drop l.document-index l.documents)) (texts_of l.ids.items);
}
