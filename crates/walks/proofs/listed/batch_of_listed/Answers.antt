use Rattle.std.proofs.Common.{◌≡◌, ℕ, Ok, length, map, sym, ap, ◌∙◌, arith}
use Rattle.std.specs.Prelude.{Bool, if◌then◌else◌, is_some, nat_lt, not}
use Rattle.std.specs.Global.{Vec}
use Rattle.std.proofs.lemmas.List.{length-map}
use Rattle.database_model.specs.Cursors.{cursor_reply}
use Rattle.database_model.specs.Refusals.{ok_reply}
use Rattle.index.specs.View.{texts_of}
use Rattle.replies.specs.OpenBatch.{AreOffered}
use Rattle.replies.specs.View.{batch_name}
use Rattle.walks.specs.Listed.{AreListedIn, IsListedBatch, given_of}
use Rattle.walks.specs.declared.batches.GivenBatch.{GivenBatch}
use Rattle.walks.proofs.BatchesLemmas.{by_none}
use Rattle.walks.proofs.GivenLemmas.{version_on}
use Rattle.walks.proofs.ListedLemmas.{as_many, listed_batch}
use Rattle.walks.proofs.listed.batch_of_listed.Goals as goal

pub returns-clause-reads : goal.returns-clause-reads
returns-clause-reads g c =
    let asked = c.args.asked.now in
    let ids = c.args.listed.now.ids.now in
    let p = c.args.listed.now.projection.now in
    let begun = c.in_ok-batch.batch in
    let batch = c.offer_listed.new.batch in
    let next = c.in_ok-next.next in
    let b : GivenBatch = record { reply = c.in_ok-reply.reply; count = c.count-count.result; next = next } in
    let last : c.is_none.result ≡ not (is_some next) = by_none c.is_none.result (is_some next) c.is_none.ensures in
    version_on g.D.Disk.history c.args.version (AreListedIn c.args.number (texts_of ids))
    (λ now chosen (_ : Unit {0}). AreOffered begun (given_of p chosen) batch.count batch)
    (λ now chosen (b : GivenBatch). IsListedBatch asked (given_of p chosen) b) c.args.file.now c.offer_listed.new.file tt (Ok b)
    c.in_ok-offer_listed.ensures.reads
    (λ now chosen asks offered.
    let many : length ids ≡ length (given_of p chosen) =
    sym (length-map ids (λ (v : Vec ℕ). v.items)) ∙ as_many chosen.home.documents (texts_of ids) chosen.documents p asks.listed in
    listed_batch asked begun batch (given_of p chosen) b c.in_ok-batch.ensures.same_most c.in_ok-batch.ensures.same_kind offered c.count-count.ensures
    (c.in_ok-next.ensures ∙ (λ i. nat_lt (c.count-count.ensures i) (many i)))
    (λ ds h. c.in_ok-reply.ensures.reply ds h
    ∙ ap (λ (done : Bool). ok_reply (cursor_reply (batch_name batch.kind) ds (if done then 0 else asked.number) asked.namespace.now)) last))
