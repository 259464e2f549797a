-- Filters that ask for one of several: for a value of a list at a path, or for what one of several
-- filters matches.
use Rattle.std.specs.Prelude.{◌≡◌, ℕ, Bool, true, false, not, ◌&&◌, Option, Some, None, List, []}
use Rattle.std.specs.Prelude.{◌∷◌}
use Rattle.bson.specs.Tree.{Tree, document, Pairs}
use Rattle.path.specs.Parts.{parts_of}
use Rattle.path.specs.Reach.{reach}
use Rattle.filter.specs.Condition.{Condition, at, is, equal, Conditions, no_conditions, condition}
use Rattle.filter.specs.Matches.{Subject, along, whole, any_holds}
use Rattle.index.specs.Definition.{Field}
use Rattle.plan_model.specs.Usable.{is_path}

-- what is asked: a document, or what a path reaches in it
abbrev pub subject_at : Option (List (List ℕ)) → Pairs → Subject
subject_at None d = whole d
subject_at (Some path) d = along (reach path (document d))

-- one of the conditions holds of what is asked
abbrev pub one_holds : Option (List (List ℕ)) → Conditions → Pairs → Bool
one_holds path rs d = any_holds rs (subject_at path d)

-- One of the conditions holds of each document that passes.
abbrev pub AreAlternatives : (Pairs → Bool) → Option (List (List ℕ)) → Conditions → Type 0
AreAlternatives passes path rs = (d : Pairs) → passes d ≡ true → one_holds path rs d ≡ true

-- the filter that asks a path to be equal to a value, and no more
abbrev pub equal_at : List (List ℕ) → Tree → Conditions
equal_at path t = condition (at path (condition (is (equal t)) no_conditions)) no_conditions

-- ---- the indexes that serve it

abbrev pub has_path : List (List ℕ) → Field → Bool
has_path path f = is_path (parts_of f.path) path

-- no field comes next, or one of another path
abbrev pub has_other_next : List (List ℕ) → List Field → Bool
has_other_next path [] = true
has_other_next path (f ∷ fs) = not (has_path path f)

-- the first field has this path, and it alone
abbrev pub begins_with : List (List ℕ) → List Field → Bool
begins_with path [] = false
begins_with path (f ∷ fs) = has_path path f && has_other_next path fs
