use Rattle.std.proofs.Common.{◌+◌, List, take, sym, subst}
use Rattle.std.specs.List.{AllZip}
use Rattle.std.proofs.lemmas.List.Elements.{all_zip_more}
use Rattle.bson.specs.Tree.{Pairs}
use Rattle.queries.specs.SortedIds.{IsShortOf}
use Rattle.queries.proofs.sorted_ids.short_documents.Goals as goal

pub documents-preserved : goal.documents-preserved
documents-preserved c =
    let R = IsShortOf c.args.sort.now in
    let ds = c.args.documents.now in
    let i = c.documents.document-index in
    let d : Pairs = c.document-item.result in
    let short : Pairs = c.in_ok-short_document.field-0 in
    let one : R d short = subst (λ (d : Pairs). R d short) c.raw.ensures c.in_ok-short_document.ensures in
    subst (λ (shorts : List Pairs). AllZip R (take (i + 1) ds) shorts) (sym c.in_ok-push.ensures.items)
    (all_zip_more R ds c.documents.shorts.items i d short c.documents-test.true c.document-item.is c.documents.invariant one)
