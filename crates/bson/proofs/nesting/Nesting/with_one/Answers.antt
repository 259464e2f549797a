use Rattle.std.proofs.Common.{sym, subst}
use Rattle.bson.specs.Overview.{CountsItems, FitsItems}
use Rattle.bson.specs.declared.depths.Depths.{Depths}
use Rattle.bson.specs.declared.nesting.Nesting.{Nesting}
use Rattle.bson.proofs.NestingLaws.{counts_one_more}
use Rattle.bson.proofs.nesting.Nesting.with_one.Goals as goal

pub returns-in-Counted-clause-fits : goal.returns-in-Counted-clause-fits
returns-in-Counted-clause-fits c = λ ts t fits short depth_is.
    let counts = subst (λ (n : Nesting). FitsItems n ts) c.in-Counted.is fits in
    let seen = subst (λ (d : Depths). CountsItems d ts) (sym c.deref_mut.ensures.value) counts in
    counts_one_more c.deref_mut.result.now c.add.new.self c.args.levels c.add.ensures ts t seen short depth_is
