use Rattle.std.proofs.Common.{Some, ap, sym, ◌∙◌}
use Rattle.std.specs.Prelude.{◌==◌}
use Rattle.bson.specs.View.{tree}
use Rattle.filter.specs.Matches.{passes}
use Rattle.filter.specs.View.{predicate_of}
use Rattle.filter.proofs.WalkLemmas.{passes-size}
use Rattle.filter.proofs.predicate.passes.Goals as goal

pub returns-in-Size-Array : goal.returns-in-Size-Array
returns-in-Size-Array c =
    ap (λ n. n == c.in-Size-Array.size) c.len.ensures
    ∙ sym (passes-size c.in-Size-Array.size c.args.alone c.in-Size-Array.array)
    ∙ (λ i. passes (predicate_of (sym c.in-Size-Array.is-0 i)) c.args.alone (Some (tree (sym c.in-Size-Array.is-1 i))))
