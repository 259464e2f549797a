use Rattle.std.proofs.Common.{[]}
use Rattle.collections.proofs.FoldingLemmas.{looks_folded}
use Rattle.collections.proofs.folding.lend_below.Goals as goal

pub returns-clause-looks : goal.returns-clause-looks
returns-clause-looks g c =
    looks_folded g.D.Disk.history g.F.Fold.makes c.args.fold.now c.fold_entries.new.fold c.args.bounds c.args.root c.fold_entries.result
    c.args.pager.now c.fold_entries.new.pages c.fold_entries.ensures.grows c.fold_entries.ensures.same c.fold_entries.ensures.takes c.fold_entries.ensures.full
    c.fold_entries.ensures.empty
    (λ d body tree. c.fold_entries.ensures.folds c.args.fold.now [] d body tree c.requires) c.requires

pub returns-clause-taken : goal.returns-clause-taken
returns-clause-taken g c = c.fold_entries.ensures.lent c.args.fold.now (record { entries = []; made = c.requires })
