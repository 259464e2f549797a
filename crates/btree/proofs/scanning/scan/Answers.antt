use Rattle.std.proofs.Common.{[]}
use Rattle.btree.proofs.ScanLemmas.{filled, filling, fills_none}
use Rattle.tree_model.proofs.StoreLemmas.{answer_failed}
use Rattle.btree.proofs.scanning.scan.Goals as goal

pub returns-in_err-fold_entries-clause-scans : goal.returns-in_err-fold_entries-clause-scans
returns-in_err-fold_entries-clause-scans g c =
    λ d body tree k.
    answer_failed (g.P.Pages.store c.args.pages.now) (g.P.Pages.store c.fold_entries.new.pages) _ _ _ c.from_residual.ensures.1
    (c.in_err-fold_entries.ensures.folds (filling c.args.alloc c.args.range.limit c.new.result) [] d body tree
    (fills_none c.args.alloc c.args.range.limit c.new.result c.new.ensures.items) k)

pub returns-clause-scans : goal.returns-clause-scans
returns-clause-scans g c =
    λ d body tree k.
    filled (filling c.args.alloc c.args.range.limit c.new.result) c.fold_entries.new.fold _
    (c.in_ok-fold_entries.ensures.folds (filling c.args.alloc c.args.range.limit c.new.result) [] d body tree
    (fills_none c.args.alloc c.args.range.limit c.new.result c.new.ensures.items) k)
