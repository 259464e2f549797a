use Rattle.std.proofs.Common.{[], ◌∷◌, sym, ◌∙◌}
use Rattle.walks.proofs.BatchesLemmas.{over_gives}
use Rattle.walks.proofs.batches.GivingDocumentFold.take.Goals as goal

pub returns-then-is_over-clause-takes : goal.returns-then-is_over-clause-takes
returns-then-is_over-clause-takes c = λ start all h.
    over_gives start c.args.self.now all (c.args.document.now ∷ []) h (sym c.is_over.ensures ∙ c.if-is_over.true)

pub returns-in_ok-text_of-clause-takes : goal.returns-in_ok-text_of-clause-takes
returns-in_ok-text_of-clause-takes c = λ start all h.
    c.in_ok-put.ensures.puts.left c.if-branch.true start all h c.in_ok-text_of.field-0 c.in_ok-text_of.ensures.text
