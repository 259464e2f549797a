use Rattle.std.proofs.Common.{◌∙◌, sym, arith}
use Rattle.path.specs.Parts.{index_of}
use Rattle.path.proofs.IndexLemmas.{there, past}
use Rattle.path.proofs.reaching.item_of_part.Goals as goal

pub returns-in-Some : goal.returns-in-Some
returns-in-Some c =
    there c.args.items.now 18446744073709551615 c.in-Some.at (index_of c.args.part.now) c.index-items-at.result
    (sym c.index.ensures ∙ c.in-Some.is) c.if-at-items.true (omega arith) c.index-items-at.is

pub returns-in-Some-2 : goal.returns-in-Some-2
returns-in-Some-2 c =
    past c.args.items.now 18446744073709551615 c.in-Some.at (index_of c.args.part.now) (sym c.index.ensures ∙ c.in-Some.is) c.if-at-items.false
