use Rattle.std.proofs.Common.{subst, sym, ap, ◌∙◌, arith}
use Rattle.bson.specs.Lawful.{IsPairs}
use Rattle.index.specs.Catalogue.{definition_in}
use Rattle.index.proofs.CatalogueLemmas.{five_pairs, other_length, trees}
use Rattle.index.proofs.definition.IndexSpec.read.Goals as goal

pub returns-then-pairs-ne5 : goal.returns-then-pairs-ne5
returns-then-pairs-ne5 c =
    sym (ap definition_in (sym c.pairs-pairs.ensures.pairs) ∙ other_length c.pairs-pairs.result.now (λ e. absurd (omega (arith, e))))

pub of_values-requires : goal.of_values-requires
of_values-requires c =
    let i = c.index-pairs-0.result in
    let name = c.index-pairs-1.result in
    let key = c.index-pairs-2.result in
    let unique = c.index-pairs-3.result in
    let multi = c.index-pairs-4.result in
    let five = five_pairs c.pairs-pairs.result.now i name key unique multi (omega arith)
    (omega arith) c.index-pairs-0.is c.index-pairs-1.is c.index-pairs-2.is c.index-pairs-3.is c.index-pairs-4.is in
    let both = trees i name key unique multi (subst IsPairs (sym c.pairs-pairs.ensures.pairs ∙ five) c.pairs-pairs.ensures.lawful.lawful) in
    record { named = both.0; keyed = both.1 }
