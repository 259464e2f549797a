use Rattle.command_model.specs.Update.{UpdateStatement}
use Rattle.database_model.specs.Merging.{has_key_of}
use Rattle.index.specs.View.{texts_of}
use Rattle.candidate_ids.proofs.TellingLemmas.{others_tell}
use Rattle.asked_documents.proofs.AskingLemmas.{if_ok}
use Rattle.meant_documents.proofs.updates.MeaningDocumentPredicate.put_ids.Goals as goal

pub returns-clause-tells : goal.returns-clause-tells
returns-clause-tells c =
    if_ok c.put_ids_of.result
    (λ told h e. others_tell (λ (s : UpdateStatement). s.filter) c.args.self.now.statements.now (has_key_of c.args.self.now.made.now)
    (texts_of c.put_ids_of.new.ids.items) (h e)) c.put_ids_of.ensures.tells
