use Rattle.std.proofs.Common.{◌≡◌, true, Some, sym, subst}
use Rattle.bson.specs.View.{tree}
use Rattle.filter.specs.Condition.{is}
use Rattle.filter.specs.Matches.{holds, matches}
use Rattle.filter.specs.View.{condition_of, predicate_of}
use Rattle.filter.specs.declared.condition.Condition.{Condition}
use Rattle.filter.specs.declared.condition.Predicate.{Predicate}
use Rattle.candidate_ids.specs.Alternatives.{equal_at, subject_at}
use Rattle.candidate_ids.proofs.AlternativesLemmas.{equal_holds, tell_narrow}
use Rattle.candidate_ids.proofs.alternatives.ids_of_member.Goals as goal

pub returns : goal.returns
returns g c =
    let path = c.args.path.now in
    let v = tree c.in-Equal.value in
    tell_narrow g.D.Disk.history c.args.home.now (matches (equal_at path v)) (λ d. holds (condition_of c.args.member.now) (subject_at (Some path) d))
    (λ d holding. equal_holds path v d
    (subst (λ (asked : Predicate). holds (is (predicate_of asked)) (subject_at (Some path) d) ≡ true) c.in-Equal.is
    (subst (λ (r : Condition). holds (condition_of r) (subject_at (Some path) d) ≡ true) c.in-Is.is holding)))
    c.args.file.now c.ids_of_value.new.file c.ids_of_value.result (sym c.if-is_stopped.ensures) c.ids_of_value.ensures
