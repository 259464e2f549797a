-- Edits as they are read, and the set of the paths that they change.
use Rattle.std.specs.Prelude.{◌≡◌, ◌||◌, Bool, List}
use Rattle.std.specs.List.{list_any}
use Rattle.path.specs.Parts.{meets}
use Rattle.update_model.specs.Update.{Path, Edit, meets_any, paths_of}
use Rattle.update_model.specs.Parsing.{meets_itself}

-- these paths are those that the edits change, as far as meeting goes
abbrev pub HavePathsOf : List Path → List Edit → Type 0
HavePathsOf paths es = (path : Path)
    → list_any (meets path) paths ≡ list_any (λ e. meets_any path (paths_of e)) es

-- what meets the new paths meets the edit or the old ones
abbrev pub HaveOneMore : List Path → Edit → List Path → Type 0
HaveOneMore old e new = (path : Path)
    → list_any (meets path) new ≡ (meets_any path (paths_of e) || list_any (meets path) old)

-- the edit meets one of these paths, or the new path of a rename meets its old one
abbrev pub conflicts_with : List Path → Edit → Bool
conflicts_with paths e =
    list_any (λ path. list_any (meets path) paths) (paths_of e) || meets_itself e.path e.action
