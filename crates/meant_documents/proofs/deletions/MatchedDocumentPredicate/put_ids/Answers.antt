use Rattle.command_model.specs.Delete.{Deletion}
use Rattle.index.specs.View.{texts_of}
use Rattle.candidate_ids.proofs.TellingLemmas.{filters_tell}
use Rattle.asked_documents.proofs.SelectsLemmas.{put_none}
use Rattle.meant_documents.proofs.deletions.MatchedDocumentPredicate.put_ids.Goals as goal

pub returns-clause-put : goal.returns-clause-put
returns-clause-put c = put_none (texts_of c.args._ids.now.items)

pub returns-clause-tells : goal.returns-clause-tells
returns-clause-tells c = λ e. filters_tell (λ (d : Deletion). d.filter) c.args.self.now.deletions.now (texts_of c.args._ids.now.items)
