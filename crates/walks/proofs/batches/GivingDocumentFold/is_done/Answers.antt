use Rattle.std.proofs.Common.{sym, ◌∙◌}
use Rattle.walks.proofs.BatchesLemmas.{over_gives}
use Rattle.walks.proofs.batches.GivingDocumentFold.is_done.Goals as goal

pub returns : goal.returns
returns c = λ done start all more h. over_gives start c.args.self.now all more h (sym c.is_over.ensures ∙ done)
