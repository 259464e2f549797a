use Rattle.std.proofs.Common.{◌≡◌, ℕ, ◌<◌, ◌^◌, true, false, Option, Some, Ok, Err, List, drop, ap, refl, sym, subst, ◌∙◌}
use Rattle.std.specs.Prelude.{All, unwrap_or}
use Rattle.std.proofs.lemmas.List.Elements.{All-drop}
use Rattle.std.proofs.lemmas.List.{drop-map}
use Rattle.std.proofs.lemmas.Result.{err_from_is_err_and}
use Rattle.std.specs.Global.{Vec}
use Rattle.cursors.specs.Changes.{opened}
use Rattle.cursors.specs.Held.{Held, cursors_of, listed}
use Rattle.bson.specs.Tree.{Pairs}
use Rattle.database_model.specs.Cursors.{is_refused}
use Rattle.database_model.specs.Lawful.{AreLawfulCursors, IsWithin}
use Rattle.index.specs.View.{texts_of}
use Rattle.collections.specs.Versions.{ReadsVersion}
use Rattle.walks.specs.Listed.{AreListedIn, IsListedBatch, given_of}
use Rattle.walks.specs.declared.batches.BatchAsked.{BatchAsked}
use Rattle.replies.specs.declared.batch_spelling.BatchKind.TheVariants as batches
use Rattle.pinned_cursors.specs.Opening.{held_walk, way_by}
use Rattle.pinned_cursors.proofs.FirstLemmas.{behind_left, listed_batch, none_so, some_so, if_none, if_some, pinned_unread, pinned_whole}
use Rattle.pinned_cursors.proofs.FirstLemmas.{pinned_many, pinned_open}
use Rattle.pinned_cursors.proofs.LawfulLemmas.{lawful_opened}
use Rattle.pinned_cursors.proofs.first.give_pinned.Goals as goal

pub returns-in_err-given-clause-gives : goal.returns-in_err-given-clause-gives
returns-in_err-given-clause-gives g c =
    let asked : BatchAsked =
    record { kind = batches.First; namespace = c.args.asked.now.namespace; number = c.unwrap_or.result; most = c.args.asked.now.most } in
    let reads = listed_batch g.D.Disk.history c.args.version c.args.left.number c.args.left.projection.now (texts_of c.args.left.texts.items)
    c.args.rest.value c.args.file.now c.batch_of_listed.new.file asked (Err c.in_err-given.field-0.0)
    (subst (λ (ids : List (Vec ℕ)). ReadsVersion g.D.Disk.history c.args.version (AreListedIn c.args.left.number (texts_of ids))
    (λ now chosen b. IsListedBatch asked (given_of c.args.left.projection.now chosen) b) (Err c.in_err-given.field-0.0) c.args.file.now
    c.batch_of_listed.new.file) c.deref.ensures.value c.in_err-given.ensures.reads) in
    let e = err_from_is_err_and c.from_residual.result c.from_residual.ensures.1 in
    rw (e.1, e.2)
    (pinned_unread g.D.Disk.history c.args.version c.args.left.number c.args.left.projection.now (way_by c.args.left) c.args.rest.value
    c.args.file.now c.batch_of_listed.new.file c.args.asked.now.connection c.args.asked.now.namespace.now c.args.asked.now.most c.args.cursors.now
    asked refl refl refl c.in_err-given.field-0.0 reads)

pub returns-then-is_none-clause-gives : goal.returns-then-is_none-clause-gives
returns-then-is_none-clause-gives g c =
    let asked : BatchAsked =
    record { kind = batches.First; namespace = c.args.asked.now.namespace; number = c.unwrap_or.result; most = c.args.asked.now.most } in
    let reads = listed_batch g.D.Disk.history c.args.version c.args.left.number c.args.left.projection.now (texts_of c.args.left.texts.items)
    c.args.rest.value c.args.file.now c.batch_of_listed.new.file asked (Ok c.in_ok-given.given)
    (subst (λ (ids : List (Vec ℕ)). ReadsVersion g.D.Disk.history c.args.version (AreListedIn c.args.left.number (texts_of ids))
    (λ now chosen b. IsListedBatch asked (given_of c.args.left.projection.now chosen) b) (Ok c.in_ok-given.given) c.args.file.now
    c.batch_of_listed.new.file) c.deref.ensures.value c.in_ok-given.ensures.reads) in
    pinned_whole g.D.Disk.history c.args.version c.args.left.number c.args.left.projection.now (way_by c.args.left) c.args.rest.value
    c.args.file.now c.batch_of_listed.new.file c.args.asked.now.connection c.args.asked.now.namespace.now c.args.asked.now.most c.args.cursors.now
    asked refl refl refl c.in_ok-given.given reads (none_so c.in_ok-given.given.next c.is_none.result c.is_none.ensures c.if-is_none.true)

pub returns-then-is_none-2-clause-gives : goal.returns-then-is_none-2-clause-gives
returns-then-is_none-2-clause-gives g c =
    let asked : BatchAsked =
    record { kind = batches.First; namespace = c.args.asked.now.namespace; number = c.unwrap_or.result; most = c.args.asked.now.most } in
    let reads = listed_batch g.D.Disk.history c.args.version c.args.left.number c.args.left.projection.now (texts_of c.args.left.texts.items)
    c.args.rest.value c.args.file.now c.batch_of_listed.new.file asked (Ok c.in_ok-given.given)
    (subst (λ (ids : List (Vec ℕ)). ReadsVersion g.D.Disk.history c.args.version (AreListedIn c.args.left.number (texts_of ids))
    (λ now chosen b. IsListedBatch asked (given_of c.args.left.projection.now chosen) b) (Ok c.in_ok-given.given) c.args.file.now
    c.batch_of_listed.new.file) c.deref.ensures.value c.in_ok-given.ensures.reads) in
    let some = some_so c.in_ok-given.given.next c.is_none.result c.is_none.ensures c.if-is_none.false in
    pinned_many g.D.Disk.history c.args.version c.args.left.number c.args.left.projection.now (way_by c.args.left) c.args.rest.value
    c.args.file.now c.batch_of_listed.new.file c.args.asked.now.connection c.args.asked.now.namespace.now c.args.asked.now.most c.args.cursors.now
    asked refl refl refl c.in_ok-given.given reads some.0 some.1
    (if_none c.next_number-number.result
    (is_refused c.args.asked.now.connection (cursors_of c.args.cursors.now) c.args.cursors.now.next ≡ true)
    (none_so c.next_number-number.result c.is_none-2.result c.is_none-2.ensures c.if-is_none-2.true)
    c.next_number-number.ensures.none)

pub returns-clause-gives : goal.returns-clause-gives
returns-clause-gives g c =
    let asked : BatchAsked =
    record { kind = batches.First; namespace = c.args.asked.now.namespace; number = c.unwrap_or.result; most = c.args.asked.now.most } in
    let reads = listed_batch g.D.Disk.history c.args.version c.args.left.number c.args.left.projection.now (texts_of c.args.left.texts.items)
    c.args.rest.value c.args.file.now c.batch_of_listed.new.file asked (Ok c.in_ok-given.given)
    (subst (λ (ids : List (Vec ℕ)). ReadsVersion g.D.Disk.history c.args.version (AreListedIn c.args.left.number (texts_of ids))
    (λ now chosen b. IsListedBatch asked (given_of c.args.left.projection.now chosen) b) (Ok c.in_ok-given.given) c.args.file.now
    c.batch_of_listed.new.file) c.deref.ensures.value c.in_ok-given.ensures.reads) in
    let number = some_so c.next_number-number.result c.is_none-2.result c.is_none-2.ensures c.if-is_none-2.false in
    let next = if_some c.next_number-number.result number.0 (λ (n : ℕ). n ≡ c.args.cursors.now.next) number.1 c.next_number-number.ensures.some in
    let behind = c.in_ok-behind.ensures in
    let texts : texts_of c.in_ok-behind.behind.texts.items ≡ drop c.in_ok-given.given.count (texts_of c.args.left.texts.items) =
    ap texts_of behind.texts ∙ sym (drop-map (λ (v : Vec ℕ). v.items) c.in_ok-given.given.count c.args.left.texts.items) in
    let some = some_so c.in_ok-given.given.next c.is_none.result c.is_none.ensures c.if-is_none.false in
    pinned_open g.D.Disk.history c.args.version c.args.left.number c.args.left.projection.now (way_by c.args.left) c.args.rest.value
    c.args.file.now c.batch_of_listed.new.file c.args.asked.now.connection c.args.asked.now.namespace.now c.args.asked.now.most c.args.cursors.now
    asked refl refl refl c.in_ok-given.given reads some.0 some.1
    (listed (drop c.in_ok-given.given.count (texts_of c.args.left.texts.items)))
    (λ passing k. behind_left g.D.Disk.history c.args.version c.args.left.number c.args.left.projection.now (texts_of c.args.left.texts.items)
    c.args.rest.value c.args.file.now c.batch_of_listed.new.file passing c.in_ok-given.given.count reads.extends)
    (c.unwrap_or.ensures ∙ ap (λ (o : Option ℕ). unwrap_or o 0) number.1 ∙ next)
    (subst (λ (n : ℕ). n < 2 ^ 63) next
    (if_some c.next_number-number.result number.0 (λ (n : ℕ). n < 2 ^ 63) number.1 c.next_number-number.ensures.below))
    (if_some c.next_number-number.result number.0
    (λ (n : ℕ). is_refused c.args.asked.now.connection (cursors_of c.args.cursors.now) c.args.cursors.now.next ≡ false) number.1
    c.next_number-number.ensures.free)
    c.open_list.new.cursors
    (c.in_ok-open_list.ensures.ok
    ∙ (λ i. opened c.args.cursors.now c.args.asked.now.connection c.args.asked.now.namespace.now (c.give.ensures i)
    (Some (held_walk c.args.version (behind.number i) (behind.projection i) (listed (texts i))))))

pub returns-clause-lawful : goal.returns-clause-lawful
returns-clause-lawful g c = λ h.
    subst (λ (held : Held). AreLawfulCursors (cursors_of held)) (sym c.in_ok-open_list.ensures.ok)
    (lawful_opened c.args.cursors.now c.args.asked.now.connection c.args.asked.now.namespace.now c.give.new.self.value _
    (subst (λ (ds : List Pairs). All IsWithin ds) (sym c.give.ensures)
    (All-drop IsWithin c.in_ok-given.given.count c.args.rest.value c.requires.within)) h)
