use Rattle.collections.specs.Folding.{documents_within}
use Rattle.collections.specs.Lookups.{IsNumbered}
use Rattle.collections.proofs.FoldingLemmas.{folds_version}
use Rattle.collections.proofs.WithinLemmas.{within_shorter}
use Rattle.collections.proofs.collections.Collections.fold_documents_in.Goals as goal

pub returns-clause-reads : goal.returns-clause-reads
returns-clause-reads g c =
    folds_version g.D.Disk.history g.F.DocumentFold.makes c.args.fold (λ cs of. IsNumbered cs of c.args.number)
    (λ of. documents_within c.args.texts of.documents) c.args.number (λ cs of numbered. numbered) (λ of. within_shorter c.args.texts of.documents)
    c.args.self.now c.fold_from.new.self
    c.fold_from.result c.args.version c.fold_from.ensures.reads
