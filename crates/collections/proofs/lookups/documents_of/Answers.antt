use Rattle.std.proofs.Common.{◌≡◌, ◌<◌, ◌≤◌, [], ◌∷◌, length, ap, ◌∙◌, arith, length-append}
use Rattle.std.proofs.lemmas.Result.{err_from_is_err_and}
use Rattle.collections.specs.Lookups.{IsOfDocument}
use Rattle.collections.proofs.FoundLemmas.{AtPlace, each_same, item_at, made_all, made_more}
use Rattle.collections.proofs.lookups.documents_of.Goals as goal

pub returns-in_err-document_of-clause-reads : goal.returns-in_err-document_of-clause-reads
returns-in_err-document_of-clause-reads c =
    let p = err_from_is_err_and c.from_residual-in_err-document_of.result c.from_residual-in_err-document_of.ensures.1 in
    let lt : c.loop-entry.entry-index < length c.args.entries.now = omega arith in
    λ ds each.
    let there : AtPlace IsOfDocument c.entry-item.result ds c.loop-entry.entry-index =
    item_at IsOfDocument c.args.entries.now ds c.loop-entry.entry-index c.entry-item.result c.entry-item.is each lt in
    rw (p.1, p.2) (c.in_err-document_of.ensures there.y there.so.0 (c.deref.ensures.value ∙ there.so.1))

pub loop-entry-preserved : goal.loop-entry-preserved
loop-entry-preserved c =
    let lt : c.loop-entry.entry-index < length c.args.entries.now = omega arith in
    record {
      each = λ ds each.
          made_more IsOfDocument
          (λ x d. x ≡ d) c.args.entries.now ds c.loop-entry.documents.items c.push.new.self.items c.loop-entry.entry-index c.entry-item.result
          c.in_ok-document_of.field-0 c.entry-item.is each lt (c.loop-entry.invariant.each ds each)
          (λ d so. c.in_ok-document_of.ensures d so.0 (c.deref.ensures.value ∙ so.1)) c.in_ok-push.ensures.items;
      count = omega (
        arith,
        ap length c.in_ok-push.ensures.items,
        length-append c.loop-entry.documents.items (c.in_ok-document_of.field-0 ∷ []),
        c.loop-entry.invariant.count,
      );
    }

pub returns-clause-reads : goal.returns-clause-reads
returns-clause-reads c =
    let le : length c.args.entries.now ≤ c.loop-entry.entry-index = omega arith in
    λ ds each. each_same c.loop-entry.documents.items ds
    (made_all IsOfDocument (λ x d. x ≡ d) c.args.entries.now ds c.loop-entry.documents.items c.loop-entry.entry-index each le
    (c.loop-entry.invariant.each ds each))
