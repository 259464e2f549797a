use Rattle.std.proofs.Common.{◌≡◌, ℕ, List, Ok, Err, subst, ◌∙◌}
use Rattle.std.proofs.lemmas.Result.{err_from_is_err_and}
use Rattle.collections.specs.IndexTexts.{AreFirstTexts, IsNumberedIndex}
use Rattle.collections.specs.Lookups.{ReadsOf}
use Rattle.collections.specs.declared.index_texts.FirstTexts.{FirstTexts}
use Rattle.index.specs.View.{texts_of}
use Rattle.planner.specs.View.{range_of}
use Rattle.queries.specs.ByOrder.{AreFirstIds}
use Rattle.queries.specs.declared.by_order.FirstIds.{FirstIds}
use Rattle.queries.proofs.ByOrderLemmas.{first_in_span}
use Rattle.asked_documents.proofs.ReadingLemmas.{reads_made, reads_memory, reads_refused}
use Rattle.queries.proofs.by_order.first_ids.Goals as goal

pub returns-in_err-read : goal.returns-in_err-read
returns-in_err-read g c =
    let r = range_of c.args.range.now in
    let e = err_from_is_err_and c.from_residual-in_err-read.result c.from_residual-in_err-read.ensures.1 in
    rw (e.1, e.2) (reads_refused g.D.Disk.history (IsNumberedIndex c.args.number c.args.index.now.number)
    (λ now at (found : FirstTexts). AreFirstTexts c.deref.result.now c.deref-2.result.now at found.are_all (texts_of found.texts.items))
    (λ now at (found : FirstIds). at.definition ≡ c.args.index.now → AreFirstIds r at found.are_all (texts_of found.ids.items))
    c.args.file.now c.first_texts.new.self c.in_err-read.field-0.0
    (subst (λ (n : ℕ). ReadsOf g.D.Disk.history (IsNumberedIndex c.args.number n)
    (λ now at (found : FirstTexts). AreFirstTexts c.deref.result.now c.deref-2.result.now at found.are_all (texts_of found.texts.items))
    (Err c.in_err-read.field-0.0) c.args.file.now c.first_texts.new.self) c.number.ensures.number c.in_err-read.ensures))

pub returns-in_err-ids_of : goal.returns-in_err-ids_of
returns-in_err-ids_of g c =
    let r = range_of c.args.range.now in
    let e = err_from_is_err_and c.from_residual-in_err-ids_of.result c.from_residual-in_err-ids_of.ensures.1 in
    rw e.1 (reads_memory g.D.Disk.history (IsNumberedIndex c.args.number c.args.index.now.number)
    (λ now at (found : FirstTexts). AreFirstTexts c.deref.result.now c.deref-2.result.now at found.are_all (texts_of found.texts.items))
    (λ now at (found : FirstIds). at.definition ≡ c.args.index.now → AreFirstIds r at found.are_all (texts_of found.ids.items))
    _ c.args.file.now c.first_texts.new.self e.0 e.2
    (subst (λ (n : ℕ). ReadsOf g.D.Disk.history (IsNumberedIndex c.args.number n)
    (λ now at (found : FirstTexts). AreFirstTexts c.deref.result.now c.deref-2.result.now at found.are_all (texts_of found.texts.items))
    (Ok c.in_ok-read.read) c.args.file.now c.first_texts.new.self) c.number.ensures.number c.in_ok-read.ensures))

pub returns : goal.returns
returns g c =
    let r = range_of c.args.range.now in
    let index = c.args.index.now in
    let read = c.in_ok-read.read in
    let first : List ℕ = c.deref.result.now in
    let last : List ℕ = c.deref-2.result.now in
    reads_made g.D.Disk.history (IsNumberedIndex c.args.number index.number)
    (λ now at (found : FirstTexts). AreFirstTexts first last at found.are_all (texts_of found.texts.items))
    (λ now at (found : FirstIds). at.definition ≡ index → AreFirstIds r at found.are_all (texts_of found.ids.items))
    c.args.file.now c.first_texts.new.self read (record { ids = c.in_ok-ids_of.field-0; are_all = read.are_all })
    (subst (λ (n : ℕ). ReadsOf g.D.Disk.history (IsNumberedIndex c.args.number n)
    (λ now at (found : FirstTexts). AreFirstTexts first last at found.are_all (texts_of found.texts.items)) (Ok read) c.args.file.now c.first_texts.new.self)
    c.number.ensures.number c.in_ok-read.ensures)
    (λ now at is p same.
    first_in_span r index at first last read.are_all (texts_of read.texts.items) (texts_of c.in_ok-ids_of.field-0.items) c.requires same
    (c.deref.ensures.value ∙ c.in_ok-span.ensures.first) (c.deref-2.ensures.value ∙ c.in_ok-span.ensures.last) p
    c.in_ok-ids_of.ensures)
