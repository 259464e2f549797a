use Rattle.std.proofs.Common.{option_map, sym}
use Rattle.btree.specs.declared.folding.Bounds.{Bounds}
use Rattle.walks.specs.declared.id_range.IdSpan.{IdSpan}
use Rattle.walks.proofs.IdRangeLemmas.{walked}
use Rattle.walks.proofs.id_range.fold_asked.Goals as goal

pub returns-clause-reads : goal.returns-clause-reads
returns-clause-reads g c =
    let texts : Bounds = record { from = c.deref.result; to = c.as_deref.result } in
    let span : IdSpan = c.in_ok-span.span in
    walked g.D.Disk.history g.F.DocumentFold.makes c.args.fold c.args.home.now (g.S.DocumentPredicate.selects c.args.which.now) texts span.first.items
    (option_map (λ v. v.items) span.end) c.deref.ensures.value c.as_deref.ensures.value c.in_ok-span.ensures c.args.file.now
    c.fold_documents_within.new.self c.fold_documents_within.result (sym c.if-is_stopped.ensures) c.fold_documents_within.ensures.reads
