-- What the walk of a path looks for, and what conditions are asked of.
use Rattle.std.specs.Prelude.{Bool, if◌then◌else◌, Option, Some, None, List, [], ◌∷◌}
use Rattle.std.specs.List.{list_any}
use Rattle.std.specs.Option.{option_map}
use Rattle.bson.specs.Tree.{Tree, scalar}
use Rattle.bson.specs.Lent.{scalar_of}
use Rattle.bson.specs.View.{tree}
use Rattle.path.specs.Reach.{Reached, reach, onwards}
use Rattle.filter.specs.Matches.{passes, Subject, whole, along, alone, some_element, of_document}
use Rattle.filter.specs.Matches.{all_hold}
use Rattle.filter.specs.View.{predicate_of}
use Rattle.filter.specs.Among.{among_passes}
use Rattle.filter.specs.declared.matching.Subject.{Subject as Asked}
use Rattle.filter.specs.declared.matching.Subject.TheVariants as subjects
use Rattle.filter.specs.declared.matching.Probe.{Probe}
use Rattle.filter.specs.declared.matching.Probe.TheVariants as probes

abbrev pub subject_of : Asked → Subject
subject_of (subjects.Whole d) = whole d.now
subject_of (subjects.Along found rest) =
    along (onwards (reach rest.now) (option_map (λ v. tree v.now) found) (None ∷ []))
subject_of (subjects.Scalar v) = along (Some (scalar (scalar_of v.now)) ∷ [])
subject_of (subjects.Alone v) = alone (tree v.now)

abbrev pub probe_passes : Probe → Bool → Reached → Bool
probe_passes (probes.Predicate predicate) one r = passes (predicate_of predicate.now) one r
probe_passes (probes.OneOf values) one r = among_passes values.now one r
probe_passes (probes.Element filter) one r = some_element (λ t. all_hold filter.now (alone t)) r
probe_passes (probes.ElementDocument filter) one r =
    some_element (of_document (all_hold filter.now)) r

-- one of what a document's field leads to passes, or Missing does where it lacks the field and
-- isn't passed over
abbrev pub field_passes : (Reached → Bool) → (Tree → List Reached) → Option Tree → Bool → Bool
field_passes pass go found passes_over =
    list_any pass (onwards go found (if passes_over then [] else None ∷ []))
