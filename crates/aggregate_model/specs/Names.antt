-- Names of fields that a stage makes: not empty, without a dot, a zero byte or a `$` in front.
use Rattle.std.specs.Prelude.{ℕ, ◌==◌, ◌||◌, Bool, Result, Ok, List}
use Rattle.std.specs.List.{list_any}
use Rattle.outcome.specs.Outcome.{unless}
use Rattle.path.specs.Parts.{is_empty, begins_with_dollar, has_zero}
use Rattle.path.specs.declared.refusal.Refusal.{Refusal}
use Rattle.path.specs.declared.refusal.Refusal.TheVariants as refusals

abbrev pub has_dot : List ℕ → Bool
has_dot name = list_any (λ b. b == 46) name

abbrev pub is_unfit : List ℕ → Bool
is_unfit name = is_empty name || begins_with_dollar name || has_dot name || has_zero name

abbrev pub field_name : List ℕ → Result (List ℕ) Refusal
field_name name = unless (is_unfit name) refusals.FailedToParse (Ok name)
