use Rattle.std.proofs.Common.{◌≡◌, List, length, map, refl, sym, ap, subst, ◌∙◌}
use Rattle.std.specs.Prelude.{All}
use Rattle.std.proofs.lemmas.List.{map-id}
use Rattle.bson.specs.Tree.{Pairs}
use Rattle.database_model.specs.Cursors.{batch_of}
use Rattle.database_model.specs.Lawful.{IsWithin}
use Rattle.database_model.specs.ListIndexes.{described_all}
use Rattle.database_model.specs.Refusals.{ok_reply}
use Rattle.asked_documents.proofs.AskingLemmas.{if_ok}
use Rattle.engine.proofs.ListingIndexes.{all_within, reply_is}
use Rattle.database_model.proofs.ShortIndexes.{definitions_short}
use Rattle.engine.proofs.list_indexes.indexes_reply.Goals as goal

pub whole_reply-requires-clause-within : goal.whole_reply-requires-clause-within
whole_reply-requires-clause-within c =
    let seen = c.deref.result.now in
    let same : map (λ (d : Pairs). d) seen ≡ described_all c.args.indexes.now = map-id seen ∙ c.deref.ensures.value ∙ c.in_ok-described.ensures.all in
    subst (λ (ds : List Pairs). All IsWithin ds) (sym same)
    (all_within c.args.indexes.now (definitions_short c.args.indexes.now c.in_ok-described.ensures.lawful c.requires.few))

pub returns-clause-reply : goal.returns-clause-reply
returns-clause-reply c =
    let seen = c.deref.result.now in
    let gs = map (λ (d : Pairs). d) seen in
    let same : gs ≡ described_all c.args.indexes.now = map-id seen ∙ c.deref.ensures.value ∙ c.in_ok-described.ensures.all in
    let short = definitions_short c.args.indexes.now c.in_ok-described.ensures.lawful c.requires.few in
    if_ok c.whole_reply.result
    (λ d is. is ∙ ap ok_reply (reply_is c.args.indexes.now short c.args.namespace.now gs (batch_of (length gs) gs) same refl)) c.whole_reply.ensures.reply
