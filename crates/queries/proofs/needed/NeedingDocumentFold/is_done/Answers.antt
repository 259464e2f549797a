use Rattle.queries.proofs.NeededLemmas.{done_needed}
use Rattle.queries.proofs.needed.NeedingDocumentFold.is_done.Goals as goal

pub returns : goal.returns
returns c = λ done start all more h. done_needed start c.args.self.now all h done more
