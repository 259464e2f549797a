use Rattle.std.proofs.Common.{[]}
use Rattle.collections.specs.ReadTexts.{AreTextsRead}
use Rattle.collections.proofs.FoldingLemmas.{looks_folded}
use Rattle.collections.proofs.index_texts.read_below.Goals as goal

pub returns : goal.returns
returns g c =
    looks_folded g.D.Disk.history AreTextsRead c.args.reading.now c.fold_entries.new.fold c.args.bounds c.args.root c.fold_entries.result
    c.args.pager.now c.fold_entries.new.pages c.fold_entries.ensures.grows c.fold_entries.ensures.same c.fold_entries.ensures.takes c.fold_entries.ensures.full
    c.fold_entries.ensures.empty
    (λ d body tree. c.fold_entries.ensures.folds c.args.reading.now [] d body tree c.requires) c.requires
