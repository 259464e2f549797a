use Rattle.std.proofs.Common.{ap, subst}
use Rattle.pager.specs.Capacity.{TreesFit}
use Rattle.collections.specs.Folding.{documents_within}
use Rattle.collections.specs.Lookups.{IsNumbered}
use Rattle.collections.specs.State.{State}
use Rattle.collections.proofs.FoldingLemmas.{folds_turn}
use Rattle.collections.proofs.WithinLemmas.{within_shorter}
use Rattle.collections.proofs.collections.Collections.fold_documents_within.Goals as goal

pub returns-clause-reads : goal.returns-clause-reads
returns-clause-reads g c =
    let history = g.D.Disk.history in
    let call = c.fold_from-2 in
    folds_turn history g.F.DocumentFold.makes c.args.fold (λ cs of. IsNumbered cs of c.args.number)
    (λ of. documents_within c.args.texts of.documents) c.args.number (λ cs of numbered. numbered) (λ of. within_shorter c.args.texts of.documents)
    c.args.self.now call.new.self call.result
    c.fold_from.inside.root call.ensures.reads (ap (λ (s : State g.row.D.Denot). s.root) c.fold_from.view_is)
    (subst (λ (s : State g.row.D.Denot). TreesFit history s.pager) c.self.view_is c.trees_fit.ensures)
