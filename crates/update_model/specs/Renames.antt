-- `$rename` moves what stands at one path to another, where it stands last in its document. Neither
-- path may lead through an array.
use Rattle.std.specs.Prelude.{if◌then◌else◌, Option, Some, None, Result, Ok, Err}
use Rattle.bson.specs.Tree.{Tree, document, Pairs}
use Rattle.path.specs.declared.refusal.Refusal.{Refusal}
use Rattle.path.specs.declared.refusal.Refusal.TheVariants as refusals
use Rattle.path.specs.Edits.{set_at, cut_at}
use Rattle.path.specs.Place.{value_at, passes_array}
use Rattle.update_model.specs.Update.{Path}

-- to the new path, once the old and the new field are gone; where nothing stood at the old one,
-- nothing changes
abbrev pub moved : Path → Path → Option Tree → Pairs → Result Pairs Refusal
moved old new None ps = Ok ps
moved old new (Some t) ps =
    if passes_array new (document ps) then Err refusals.BadValue
    else set_at new t (cut_at new (cut_at old ps))

abbrev pub rename_at : Path → Path → Pairs → Result Pairs Refusal
rename_at old new ps =
    if passes_array old (document ps) then Err refusals.BadValue
    else moved old new (value_at old (document ps)) ps
