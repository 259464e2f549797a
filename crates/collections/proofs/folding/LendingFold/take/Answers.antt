use Rattle.btree.specs.Fold.{entry_at}
use Rattle.collections.specs.Folding.{document_in}
use Rattle.std.specs.Prelude.{map}
use Rattle.collections.proofs.FoldingLemmas.{lends_next, refused_on}
use Rattle.collections.proofs.folding.LendingFold.take.Goals as goal

pub returns-then-is_none : goal.returns-then-is_none
returns-then-is_none g c = λ start all h.
    lends_next g.F.DocumentFold.makes start c.args.self.now all (entry_at c.args._key.now c.args.value.now) c.lend.new.fold c.lend.result c.err-self.result
    c.if-is_none.ensures c.err-self.ensures.value (λ made. c.lend.ensures.takes start.fold (map document_in all) made)
    c.lend.ensures.refuses h

pub returns-else-is_none : goal.returns-else-is_none
returns-else-is_none g c = λ start all h.
    refused_on g.F.DocumentFold.makes start c.args.self.now all (entry_at c.args._key.now c.args.value.now) c.if-is_none.ensures h
