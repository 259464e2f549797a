-- The projection that a document spells, or the first misuse from the left.
use Rattle.std.specs.Prelude.{ℕ, ℤ, pos, negsuc, ◌++◌, ◌==◌, ◌&&◌, not, Bool, true, false}
use Rattle.std.specs.Prelude.{if◌then◌else◌, Option, Some, None, Result, Ok, Err, List, [], ◌∷◌}
use Rattle.std.specs.Prelude.{codes}
use Rattle.std.specs.List.{list_any}
use Rattle.bson.specs.Tree.{Tree, scalar, boolean, int32, int64, Pairs, no_pairs, pair}
use Rattle.path.specs.declared.refusal.Refusal.{Refusal}
use Rattle.path.specs.declared.refusal.Refusal.TheVariants as refusals
use Rattle.path.specs.Edits.{if_ok}
use Rattle.path.specs.Parts.{meets}
use Rattle.filter.specs.IdPaths.{is_id, begins_with_id}
use Rattle.filter.specs.Parsing.{path_in}
use Rattle.projection.specs.Projection.{Path, Projection}

abbrev pub flag_of : ℤ → Result Bool Refusal
flag_of (pos n) = if n == 0 then Ok false else if n == 1 then Ok true else Err refusals.BadValue
flag_of (negsuc n) = Err refusals.BadValue

abbrev pub flag_in : Tree → Result Bool Refusal
flag_in (scalar (boolean b)) = Ok b
flag_in (scalar (int32 z)) = flag_of z
flag_in (scalar (int64 z)) = flag_of z
flag_in t = Err refusals.TypeMismatch

abbrev pub id_path : Path
id_path = codes "_id" ∷ []

-- what was read so far: what the fields but `_id` say, what `_id` says, and the paths of these
-- fields
pub record Seen : Type 0 where
  pub fields : Option Bool
  pub id : Option Bool
  pub paths : List Path

abbrev pub nothing_seen : Seen
nothing_seen = record { fields = None; id = None; paths = [] }

abbrev pub agrees : Option Bool → Bool → Bool
agrees None b = true
agrees (Some true) b = b
agrees (Some false) b = not b

abbrev pub is_said : Option Bool → Bool
is_said None = false
is_said (Some b) = true

abbrev pub with_field : Path → Bool → Seen → Result Seen Refusal
with_field path b seen =
    if is_said seen.id && begins_with_id path then Err refusals.BadValue else
    if list_any (meets path) seen.paths then Err refusals.BadValue else
    if is_id path then Ok (record { fields = seen.fields; id = Some b; paths = seen.paths }) else
    if agrees seen.fields b
    then Ok (record { fields = Some b; id = seen.id; paths = seen.paths ++ path ∷ [] }) else
    Err refusals.BadValue

abbrev pub read_field : List ℕ → Tree → Seen → Result Seen Refusal
read_field name t seen =
    if_ok (path_in name) (λ path. if_ok (flag_in t) (λ b. with_field path b seen))

abbrev pub read_flags : Seen → Pairs → Result Seen Refusal
read_flags seen no_pairs = Ok seen
read_flags seen (pair name t ps) = if_ok (read_field name t seen) (λ more. read_flags more ps)

-- a field that is computed and not taken from the document: an inclusion, `_id` too
abbrev pub as_inclusion : Seen → Result Seen Refusal
as_inclusion seen =
    if agrees seen.fields true
    then Ok (record { fields = Some true; id = seen.id; paths = seen.paths }) else
    Err refusals.BadValue

abbrev pub with_computed : Path → Seen → Result Seen Refusal
with_computed path seen = if_ok (with_field path true seen) as_inclusion

-- `_id` alone says for itself; an empty projection takes nothing away
abbrev pub mode : Option Bool → Option Bool → Bool
mode (Some b) id = b
mode None (Some b) = b
mode None None = false

-- whether `_id` is one of the paths: an inclusion keeps it, unless it says otherwise or names
-- something in it
abbrev pub names_id : Bool → Option Bool → List Path → Bool
names_id true (Some b) paths = b
names_id true None paths = not (list_any begins_with_id paths)
names_id false (Some b) paths = not b
names_id false None paths = false

abbrev pub projection_of : Bool → Seen → Projection
projection_of includes seen = (
  includes,
  if names_id includes seen.id seen.paths then seen.paths ++ id_path ∷ [] else seen.paths,
)

abbrev pub projection_seen : Seen → Projection
projection_seen seen = projection_of (mode seen.fields seen.id) seen

abbrev pub read_projection : Pairs → Result Projection Refusal
read_projection ps = if_ok (read_flags nothing_seen ps) (λ seen. Ok (projection_seen seen))
