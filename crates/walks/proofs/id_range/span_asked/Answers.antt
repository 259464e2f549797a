use Rattle.std.proofs.Common.{Option, None, option_map, refl, subst}
use Rattle.std.specs.Prelude.{IfSome}
use Rattle.filter.specs.Matches.{matches}
use Rattle.walks.specs.IdRange.{PassWithin}
use Rattle.walks.specs.declared.id_range.IdSpan.{IdSpan}
use Rattle.walks.proofs.IdRangeLemmas.{all_within, asked_within}
use Rattle.walks.proofs.id_range.span_asked.Goals as goal

pub returns-in-Some-2 : goal.returns-in-Some-2
returns-in-Some-2 g c =
    let rs = c.in-Some.filter.now in
    let span : IdSpan = c.in-Some-2.span in
    asked_within (g.S.DocumentPredicate.selects c.args.which.now) rs span.first.items (option_map (λ v. v.items) span.end) c.in-Some.ensures
    (subst (λ (o : Option IdSpan). IfSome o (λ s. PassWithin (matches rs) s.first.items (option_map (λ v. v.items) s.end))) c.in-Some-2.is
    c.in_ok-span.ensures)

pub returns : goal.returns
returns g c = all_within (g.S.DocumentPredicate.selects c.args.which.now) c.new.result.items None c.new.ensures.items refl
