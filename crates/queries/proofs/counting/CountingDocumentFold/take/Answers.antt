use Rattle.std.proofs.Common.{refl, sym, ◌∙◌}
use Rattle.queries.proofs.CountLemmas.{none_counted, one_counted}
use Rattle.queries.proofs.counting.CountingDocumentFold.take.Goals as goal

pub returns-then-not-branch-clause-takes : goal.returns-then-not-branch-clause-takes
returns-then-not-branch-clause-takes c = λ start all h.
    none_counted start c.args.self.now all c.args.document.now (sym c.in_ok-matches_raw.ensures ∙ c.if-not-branch.true) h

pub returns-clause-takes : goal.returns-clause-takes
returns-clause-takes c = λ start all h.
    one_counted start c.args.self.now all c.args.document.now _ refl c.saturating_add-self.ensures (sym c.in_ok-matches_raw.ensures ∙ c.if-not-branch.false) h
