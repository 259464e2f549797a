use Rattle.std.proofs.Common.{◌≡◌, Ok, [], refl, ◌∙◌, ap, append-nil, sym, length}
use Rattle.bson.specs.Spelling.{frame_of, pairs_bytes}
use Rattle.bson.specs.Tree.{Pairs}
use Rattle.collections.proofs.FoldingLemmas.{ok_same, spells_storable}
use Rattle.collections.proofs.folding.document_at.Goals as goal

pub returns-then-bytes-value-clause-reads : goal.returns-then-bytes-value-clause-reads
returns-then-bytes-value-clause-reads c = λ d h e.
    let is = c.in-Ok.ensures.only c.args.value.now [] d (spells_storable c.args.value.now d h e) (sym (append-nil c.args.value.now)) in cc

pub returns-else-bytes-value-clause-reads : goal.returns-else-bytes-value-clause-reads
returns-else-bytes-value-clause-reads c = λ d h e.
    let value = c.args.value.now in
    let is : c.in-Ok.document ≡ d =
    ok_same (Ok c.in-Ok.document) c.in-Ok.document d refl (c.in-Ok.ensures.only value [] d (spells_storable value d h e) (sym (append-nil value))) in
    let same : c.bytes.result.now ≡ value = c.bytes.ensures.spelled ∙ ap (λ (d : Pairs). frame_of (pairs_bytes d)) is ∙ sym e in
    absurd (c.if-bytes-value.false (ap length same))

pub returns-in-Err-clause-reads : goal.returns-in-Err-clause-reads
returns-in-Err-clause-reads c = λ d h e.
    let is = c.in-Err.ensures.only c.args.value.now [] d (spells_storable c.args.value.now d h e) (sym (append-nil c.args.value.now)) in absurd cc
