use Rattle.std.proofs.Common.{◌≡◌, ℕ, ◌<◌, ◌^◌, false, true, Option, Some, Ok, Err, List, ap, refl, sym, subst, ◌∙◌}
use Rattle.std.specs.Prelude.{All, unwrap_or}
use Rattle.std.proofs.lemmas.List.Elements.{All-drop}
use Rattle.std.proofs.lemmas.Result.{err_from_is_err_and}
use Rattle.std.specs.Global.{Vec}
use Rattle.cursors.specs.Changes.{further, opened}
use Rattle.cursors.specs.Held.{Held, cursors_of}
use Rattle.bson.specs.Tree.{Pairs}
use Rattle.database_model.specs.Cursors.{is_refused}
use Rattle.database_model.specs.Lawful.{AreLawfulCursors, IsWithin}
use Rattle.walks.specs.declared.batches.BatchAsked.{BatchAsked}
use Rattle.walks.specs.declared.batches.GivenBatch.{GivenBatch}
use Rattle.replies.specs.declared.batch_spelling.BatchKind.TheVariants as batches
use Rattle.pinned_cursors.specs.Opening.{held_walk, way_in_order}
use Rattle.pinned_cursors.proofs.FirstLemmas.{behind_in_order, in_order_batch, none_so, some_so, if_none, if_some, pinned_unread}
use Rattle.pinned_cursors.proofs.FirstLemmas.{pinned_many, pinned_open, pinned_out, pinned_whole}
use Rattle.pinned_cursors.proofs.LawfulLemmas.{lawful_opened}
use Rattle.pinned_cursors.proofs.OrderLemmas.{none_read, some_read}
use Rattle.pinned_cursors.proofs.first_in_order.may_give_pinned.Goals as goal

pub returns-in_err-read-clause-gives : goal.returns-in_err-read-clause-gives
returns-in_err-read-clause-gives g c =
    let history = g.D.Disk.history in
    let w = c.args.left.now.walk in
    let number = c.args.left.now.number in
    let asked : BatchAsked =
    record { kind = batches.First; namespace = c.args.asked.now.namespace; number = c.unwrap_or.result; most = c.args.asked.now.most } in
    let e = err_from_is_err_and c.from_residual.result c.from_residual.ensures.1 in
    rw (e.1, e.2)
    (pinned_unread history c.args.version number w.projection.now (way_in_order w) c.args.rest.value c.args.file.now c.batch_in_order.new.file
    c.args.asked.now.connection c.args.asked.now.namespace.now c.args.asked.now.most c.args.cursors.now asked refl refl refl c.in_err-read.field-0.0
    (in_order_batch history c.args.version number w c.args.rest.value asked c.args.file.now c.batch_in_order.new.file (Err c.in_err-read.field-0.0)
    (none_read history c.args.version number w asked c.args.file.now c.batch_in_order.new.file c.in_err-read.field-0.0 c.in_err-read.ensures.reads)))

-- the batch isn't full
pub returns-in_default-clause-gives : goal.returns-in_default-clause-gives
returns-in_default-clause-gives g c =
    let reads = c.in_ok-read.ensures.reads in
    record { extends = reads.extends; unchanged = reads.unchanged; state = reads.same; same = refl }

-- all was given
pub returns-in_default-next-clause-gives : goal.returns-in_default-next-clause-gives
returns-in_default-next-clause-gives g c =
    let history = g.D.Disk.history in
    let w = c.args.left.now.walk in
    let number = c.args.left.now.number in
    let asked : BatchAsked =
    record { kind = batches.First; namespace = c.args.asked.now.namespace; number = c.unwrap_or.result; most = c.args.asked.now.most } in
    let b : GivenBatch = c.in-Some.given in
    let reads = some_read history c.args.version number w asked c.args.file.now c.batch_in_order.new.file c.in_ok-read.read b c.in-Some.is
    c.in_ok-read.ensures.reads in
    pinned_whole history c.args.version number w.projection.now (way_in_order w) c.args.rest.value c.args.file.now c.batch_in_order.new.file
    c.args.asked.now.connection c.args.asked.now.namespace.now c.args.asked.now.most c.args.cursors.now asked refl refl refl b
    (in_order_batch history c.args.version number w c.args.rest.value asked c.args.file.now c.batch_in_order.new.file (Ok b) reads)
    c.in_default-next.is

pub returns-then-is_none-clause-gives : goal.returns-then-is_none-clause-gives
returns-then-is_none-clause-gives g c =
    let history = g.D.Disk.history in
    let w = c.args.left.now.walk in
    let number = c.args.left.now.number in
    let asked : BatchAsked =
    record { kind = batches.First; namespace = c.args.asked.now.namespace; number = c.unwrap_or.result; most = c.args.asked.now.most } in
    let b : GivenBatch = c.in-Some.given in
    let reads = some_read history c.args.version number w asked c.args.file.now c.batch_in_order.new.file c.in_ok-read.read b c.in-Some.is
    c.in_ok-read.ensures.reads in
    pinned_many history c.args.version number w.projection.now (way_in_order w) c.args.rest.value c.args.file.now c.batch_in_order.new.file
    c.args.asked.now.connection c.args.asked.now.namespace.now c.args.asked.now.most c.args.cursors.now asked refl refl refl b
    (in_order_batch history c.args.version number w c.args.rest.value asked c.args.file.now c.batch_in_order.new.file (Ok b) reads)
    c.in-Some-next.from c.in-Some-next.is
    (if_none c.next_number-number.result
    (is_refused c.args.asked.now.connection (cursors_of c.args.cursors.now) c.args.cursors.now.next ≡ true)
    (none_so c.next_number-number.result c.is_none.result c.is_none.ensures c.if-is_none.true)
    c.next_number-number.ensures.none)

pub returns-in_err-open_order-clause-gives : goal.returns-in_err-open_order-clause-gives
returns-in_err-open_order-clause-gives g c =
    let history = g.D.Disk.history in
    let w = c.args.left.now.walk in
    let number = c.args.left.now.number in
    let asked : BatchAsked =
    record { kind = batches.First; namespace = c.args.asked.now.namespace; number = c.unwrap_or.result; most = c.args.asked.now.most } in
    let b : GivenBatch = c.in-Some.given in
    let reads = some_read history c.args.version number w asked c.args.file.now c.batch_in_order.new.file c.in_ok-read.read b c.in-Some.is
    c.in_ok-read.ensures.reads in
    let e = err_from_is_err_and c.from_residual-in_err-open_order.result c.from_residual-in_err-open_order.ensures.1 in
    rw e.1
    (pinned_out history c.args.version number w.projection.now (way_in_order w) c.args.rest.value c.args.file.now c.batch_in_order.new.file
    c.args.asked.now.connection c.args.asked.now.namespace.now c.args.asked.now.most c.args.cursors.now asked refl refl refl b
    (in_order_batch history c.args.version number w c.args.rest.value asked c.args.file.now c.batch_in_order.new.file (Ok b) reads)
    e.0 e.2 c.open_order.new.cursors c.in_err-open_order.ensures.err)

pub returns-clause-gives : goal.returns-clause-gives
returns-clause-gives g c =
    let history = g.D.Disk.history in
    let w = c.args.left.now.walk in
    let number = c.args.left.now.number in
    let asked : BatchAsked =
    record { kind = batches.First; namespace = c.args.asked.now.namespace; number = c.unwrap_or.result; most = c.args.asked.now.most } in
    let b : GivenBatch = c.in-Some.given in
    let reads = some_read history c.args.version number w asked c.args.file.now c.batch_in_order.new.file c.in_ok-read.read b c.in-Some.is
    c.in_ok-read.ensures.reads in
    let free = some_so c.next_number-number.result c.is_none.result c.is_none.ensures c.if-is_none.false in
    let next = if_some c.next_number-number.result free.0 (λ (n : ℕ). n ≡ c.args.cursors.now.next) free.1 c.next_number-number.ensures.some in
    let behind = further b.count c.in-Some-next.from.items (way_in_order w) in
    pinned_open history c.args.version number w.projection.now (way_in_order w) c.args.rest.value c.args.file.now c.batch_in_order.new.file
    c.args.asked.now.connection c.args.asked.now.namespace.now c.args.asked.now.most c.args.cursors.now asked refl refl refl b
    (in_order_batch history c.args.version number w c.args.rest.value asked c.args.file.now c.batch_in_order.new.file (Ok b) reads)
    c.in-Some-next.from c.in-Some-next.is behind
    (behind_in_order history c.args.version number w c.args.rest.value asked c.args.file.now c.batch_in_order.new.file b c.in-Some-next.from c.in-Some-next.is
    reads)
    (c.unwrap_or.ensures ∙ ap (λ (o : Option ℕ). unwrap_or o 0) free.1 ∙ next)
    (subst (λ (n : ℕ). n < 2 ^ 63) next
    (if_some c.next_number-number.result free.0 (λ (n : ℕ). n < 2 ^ 63) free.1 c.next_number-number.ensures.below))
    (if_some c.next_number-number.result free.0
    (λ (n : ℕ). is_refused c.args.asked.now.connection (cursors_of c.args.cursors.now) c.args.cursors.now.next ≡ false) free.1
    c.next_number-number.ensures.free)
    c.open_order.new.cursors
    (c.in_ok-open_order.ensures.ok
    ∙ (λ i. opened c.args.cursors.now c.args.asked.now.connection c.args.asked.now.namespace.now (c.give.ensures i)
    (Some (held_walk c.args.version number w.projection.now behind))))

pub returns-clause-lawful : goal.returns-clause-lawful
returns-clause-lawful g c = λ h.
    subst (λ (held : Held). AreLawfulCursors (cursors_of held)) (sym c.in_ok-open_order.ensures.ok)
    (lawful_opened c.args.cursors.now c.args.asked.now.connection c.args.asked.now.namespace.now c.give.new.self.value _
    (subst (λ (ds : List Pairs). All IsWithin ds) (sym c.give.ensures)
    (All-drop IsWithin c.in-Some.given.count c.args.rest.value c.requires.within)) h)
