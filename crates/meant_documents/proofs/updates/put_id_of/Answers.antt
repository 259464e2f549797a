use Rattle.std.proofs.Common.{rules, ◌≡◌}
use Rattle.bson.specs.View.{tree}
use Rattle.index.specs.View.{texts_of}
use Rattle.database_model.specs.Documents.{key_of}
use Rattle.candidate_ids.proofs.IdTextLemmas.{made_tells}
use Rattle.asked_documents.proofs.SelectsLemmas.{put_none}
use Rattle.asked_documents.proofs.AskingLemmas.{if_ok}
use Rattle.meant_documents.proofs.updates.put_id_of.Goals as goal

pub returns-in-None-clause-put : goal.returns-in-None-clause-put
returns-in-None-clause-put c = put_none (texts_of c.args.ids.now.items)

pub returns-in-Some-clause-tells : goal.returns-in-Some-clause-tells
returns-in-Some-clause-tells c =
    let m = c.args.document.now in
    let v = tree c.in-Some.id.now in
    let same : v ≡ key_of m = search rules in
    if_ok c.put_id.result (λ told h e. made_tells m v (texts_of c.put_id.new.ids.items) same (h e)) c.put_id.ensures.tells
