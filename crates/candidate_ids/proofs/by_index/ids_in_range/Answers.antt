use Rattle.std.proofs.Common.{◌≡◌, ℕ, List, Option, Some, Ok, Err, Vec, Global, subst, ◌∙◌}
use Rattle.std.specs.Prelude.{IfSome}
use Rattle.std.proofs.lemmas.Result.{err_from_is_err_and}
use Rattle.collections.specs.IndexTexts.{AreTextsBetween, IsNumberedIndex}
use Rattle.collections.specs.Lookups.{ReadsOf}
use Rattle.index.specs.View.{texts_of}
use Rattle.planner.specs.View.{range_of}
use Rattle.candidate_ids.specs.ByIndex.{AreIdsInRange}
use Rattle.candidate_ids.proofs.ByIndexLemmas.{in_range}
use Rattle.asked_documents.proofs.ReadingLemmas.{reads_made, reads_refused}
use Rattle.candidate_ids.proofs.by_index.ids_in_range.Goals as goal

pub returns-in_err-texts : goal.returns-in_err-texts
returns-in_err-texts g c =
    let r = range_of c.args.range.now in
    let e = err_from_is_err_and c.from_residual-in_err-texts.result c.from_residual-in_err-texts.ensures.1 in
    rw (e.1, e.2) (reads_refused g.D.Disk.history (IsNumberedIndex c.args.number c.args.index.now.number)
    (λ now at (found : Option (Vec (Vec ℕ Global) Global)). IfSome found
    (λ texts. AreTextsBetween c.deref.result.now c.deref-2.result.now at (texts_of texts.items)))
    (λ now at (found : Option (Vec (Vec ℕ Global) Global)). at.definition ≡ c.args.index.now → IfSome found (λ ids. AreIdsInRange r at (texts_of ids.items)))
    c.args.file.now c.index_texts.new.self c.in_err-texts.field-0.0
    (subst (λ (n : ℕ). ReadsOf g.D.Disk.history (IsNumberedIndex c.args.number n)
    (λ now at (found : Option (Vec (Vec ℕ Global) Global)). IfSome found
    (λ texts. AreTextsBetween c.deref.result.now c.deref-2.result.now at (texts_of texts.items)))
    (Err c.in_err-texts.field-0.0) c.args.file.now c.index_texts.new.self) c.number.ensures.number c.in_err-texts.ensures))

pub returns : goal.returns
returns g c =
    let r = range_of c.args.range.now in
    let index = c.args.index.now in
    let texts = c.in-Some.texts in
    let first : List ℕ = c.deref.result.now in
    let last : List ℕ = c.deref-2.result.now in
    reads_made g.D.Disk.history (IsNumberedIndex c.args.number index.number)
    (λ now at (found : Option (Vec (Vec ℕ Global) Global)). IfSome found (λ texts. AreTextsBetween first last at (texts_of texts.items)))
    (λ now at (found : Option (Vec (Vec ℕ Global) Global)). at.definition ≡ index → IfSome found (λ ids. AreIdsInRange r at (texts_of ids.items)))
    c.args.file.now c.index_texts.new.self c.in_ok-texts.field-0 (Some c.in_ok-ids_of.field-0)
    (subst (λ (n : ℕ). ReadsOf g.D.Disk.history (IsNumberedIndex c.args.number n)
    (λ now at (found : Option (Vec (Vec ℕ Global) Global)). IfSome found
    (λ texts. AreTextsBetween c.deref.result.now c.deref-2.result.now at (texts_of texts.items)))
    (Ok c.in_ok-texts.field-0) c.args.file.now c.index_texts.new.self) c.number.ensures.number c.in_ok-texts.ensures)
    (λ now at is p same.
    let between : AreTextsBetween first last at (texts_of texts.items) =
    subst (λ (o : Option (Vec (Vec ℕ Global) Global)). IfSome o (λ t. AreTextsBetween first last at (texts_of t.items))) c.in-Some.is p in
    in_range r index at first last (texts_of texts.items) (texts_of c.in_ok-ids_of.field-0.items) c.requires same
    (c.deref.ensures.value ∙ c.in_ok-span.ensures.first) (c.deref-2.ensures.value ∙ c.in_ok-span.ensures.last) between
    c.in_ok-ids_of.ensures)
