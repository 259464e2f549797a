use Rattle.std.proofs.Common.{◌≡◌, List, length, map, sym, subst, ◌∙◌}
use Rattle.std.specs.Prelude.{All, codes}
use Rattle.std.proofs.lemmas.List.{length-map}
use Rattle.bson.specs.Tree.{Pairs}
use Rattle.database_model.specs.Cursors.{batch_of, batch_reply}
use Rattle.database_model.specs.Lawful.{IsWithin}
use Rattle.database_model.specs.Refusals.{ok_reply}
use Rattle.replies.specs.View.{projected}
use Rattle.replies.proofs.WholeLemmas.{all_stay}
use Rattle.replies.proofs.batch_spelling.whole_reply.Goals as goal

pub batch_reply-requires-clause-within : goal.batch_reply-requires-clause-within
batch_reply-requires-clause-within g c =
    let ds = map g.T.Gives.document c.args.documents.now in
    subst (λ (es : List Pairs). All IsWithin es) (sym (all_stay c.new-all.result ds c.new-all.ensures)) c.requires.within

pub returns-clause-reply : goal.returns-clause-reply
returns-clause-reply g c =
    let ds = map g.T.Gives.document c.args.documents.now in
    let ns = c.args.namespace.now in
    let gs = projected c.new-all.result ds in
    let same : gs ≡ ds = all_stay c.new-all.result ds c.new-all.ensures in
    let many : length c.args.documents.now ≡ length ds = sym (length-map c.args.documents.now g.T.Gives.document) in
    let count : c.in_ok-reply.field-0-1 ≡ batch_of (length ds) ds = c.in_ok-reply.ensures.count ∙ (λ i. batch_of (many i) (same i)) in
    c.in_ok-reply.ensures.reply ∙ (λ i. ok_reply (batch_reply (codes "firstBatch") (count i) (same i) 0 ns))
