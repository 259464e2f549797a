use Rattle.command_model.specs.Values.{document_in}
use Rattle.command_model.specs.Insert.{documents_at}
use Rattle.commands.proofs.Readings.{Read}
use Rattle.commands.proofs.insert.all_documents.Given as goal

abbrev pub invariant-items : goal.invariant-items
invariant-items l = Read document_in l.items l.item-index (documents_at l.documents.items)
