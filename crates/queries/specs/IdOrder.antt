-- Sorts that leave documents in ascending order of `_id` as they are.
use Rattle.std.specs.Prelude.{◌&&◌, not, Bool, true, List, [], ◌∷◌}
use Rattle.filter.specs.IdPaths.{is_id}
use Rattle.sort.specs.Sort.{SortField}

-- It has no field, or its first one is `_id`, ascending: no two documents have one `_id`, so no
-- other field decides.
abbrev pub keeps_id_order : List SortField → Bool
keeps_id_order [] = true
keeps_id_order (field ∷ fields) = is_id field.0 && not field.1
