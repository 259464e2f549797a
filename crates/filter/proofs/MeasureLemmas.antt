-- How much is left to ask.
use Rattle.std.proofs.Common.{ℕ, length}
use Rattle.filter.specs.Condition.{weights}
use Rattle.filter.specs.declared.matching.Subject.{Subject}
use Rattle.filter.specs.declared.matching.Subject.TheVariants as subjects
use Rattle.filter.specs.declared.matching.Probe.{Probe}
use Rattle.filter.specs.declared.matching.Probe.TheVariants as probes

-- the parts of the path that is followed
abbrev pub way : Subject → ℕ
way (subjects.Whole d) = 0
way (subjects.Along found rest) = length rest.now
way (subjects.Scalar v) = 0
way (subjects.Alone v) = 0

-- the conditions that are asked of what is found
abbrev pub asked : Probe → ℕ
asked (probes.Predicate predicate) = 0
asked (probes.OneOf values) = 0
asked (probes.Element filter) = weights filter.now
asked (probes.ElementDocument filter) = weights filter.now
