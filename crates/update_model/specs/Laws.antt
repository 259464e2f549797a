-- Laws of updates, said apart from how they are read and applied.
use Rattle.std.specs.Prelude.{◌≡◌, ℕ, suc, ◌≤◌, false, length, Some, None, Ok, Err, List, [], ◌∷◌}
use Rattle.std.specs.List.{Contains}
use Rattle.bson.specs.Tree.{Tree, document, Pairs, pair}
use Rattle.bson.specs.Lawful.{pairs_levels}
use Rattle.bson.specs.Lookup.{lookup}
use Rattle.bson.specs.Spelling.{frame_of, pairs_bytes}
use Rattle.path.specs.Place.{value_at, passes_array}
use Rattle.path.specs.PlaceLaws.{HasNames, Kept}
use Rattle.path.specs.Reach.{reach}
use Rattle.path.specs.declared.refusal.Refusal.{Refusal}
use Rattle.path.specs.declared.refusal.Refusal.TheVariants as refusals
use Rattle.update_model.specs.Update.{Path, Action, set, unset, pull, rename, Edit, Update}
use Rattle.update_model.specs.Update.{paths_of, meets_any}
use Rattle.update_model.specs.Stored.{id_name, pairs_fault, no_array}
use Rattle.update_model.specs.Parsing.{read_update}
use Rattle.update_model.specs.Applying.{apply_edit, apply_edits, apply}

-- no update changes `_id`
abbrev pub KeepsId : Type 0
KeepsId =
    (source : Pairs) (u : Update) (limit : ℕ) (ps qs : Pairs) (id : Tree)
    → read_update source ≡ Ok u → apply u limit ps ≡ Ok qs
    → lookup ps id_name ≡ Some id → lookup qs id_name ≡ Some id

-- ---- edits that meet nothing

abbrev pub MeetsNothing : Path → Action → Pairs → Type 0
MeetsNothing path unset ps = value_at path (document ps) ≡ None
MeetsNothing path (pull condition) ps = value_at path (document ps) ≡ None
MeetsNothing path (rename new) ps =
    (value_at path (document ps) ≡ None) × (passes_array path (document ps) ≡ false)
MeetsNothing path other ps = ⊥

abbrev pub AllMeetNothing : List Edit → Pairs → Type 0
AllMeetNothing [] ps = Unit {0}
AllMeetNothing (e ∷ es) ps = MeetsNothing e.path e.action ps × AllMeetNothing es ps

abbrev pub ChangesNothing : Type 0
ChangesNothing = (es : List Edit) (ps : Pairs) → AllMeetNothing es ps → apply_edits es ps ≡ Ok ps

-- ---- what an edit does elsewhere

-- the paths are such as reading gives: of one part or more, none of which is empty
abbrev pub IsPath : Path → Type 0
IsPath [] = ⊥
IsPath (name ∷ rest) = HasNames (name ∷ rest)

abbrev pub ArePaths : List Path → Type 0
ArePaths [] = Unit {0}
ArePaths (path ∷ paths) = IsPath path × ArePaths paths

-- what `$set` wrote stands at its path, and is among what the path reaches
abbrev pub SetStands : Type 0
SetStands =
    (path : Path) (t : Tree) (ps qs : Pairs) → IsPath path
    → apply_edit (record { path = path; action = set t }) ps ≡ Ok qs
    → (value_at path (document qs) ≡ Some t) × Contains (reach path (document qs)) (Some t)

-- an edit leaves what stands at each path that meets none of its own; where nothing stood there, it
-- makes nulls at most
abbrev pub KeepsOthers : Type 0
KeepsOthers =
    (e : Edit) (other : Path) (ps qs : Pairs) → ArePaths (paths_of e) → IsPath other
    → meets_any other (paths_of e) ≡ false
    → apply_edit e ps ≡ Ok qs → Kept (value_at other (document ps)) (value_at other (document qs))

-- ---- what comes out

-- the document may be stored, and its `_id` stands first
pub record IsStored (limit : ℕ) (qs : Pairs) : Type 0 where
  pub size : length (frame_of (pairs_bytes qs)) ≤ limit
  pub levels : suc (pairs_levels qs) ≤ 90
  pub names : pairs_fault qs ≡ None
  pub id : Tree
  pub no_list : no_array id ≡ Some id
  pub rest : Pairs
  pub id_stands_first : qs ≡ pair id_name id rest

abbrev pub GivesStored : Type 0
GivesStored = (u : Update) (limit : ℕ) (ps qs : Pairs) → apply u limit ps ≡ Ok qs
    → IsStored limit qs

-- the refusals of an update that is applied
abbrev pub IsOfApplying : Refusal → Type 0
IsOfApplying refusals.PathNotViable = Unit {0}
IsOfApplying refusals.BadValue = Unit {0}
IsOfApplying refusals.TypeMismatch = Unit {0}
IsOfApplying refusals.ImmutableField = Unit {0}
IsOfApplying refusals.BSONObjectTooLarge = Unit {0}
IsOfApplying refusals.EmptyFieldName = Unit {0}
IsOfApplying refusals.DollarPrefixedFieldName = Unit {0}
IsOfApplying refusals.DottedFieldName = Unit {0}
IsOfApplying other = ⊥

abbrev pub RefusesByName : Type 0
RefusesByName = (u : Update) (limit : ℕ) (ps : Pairs) (e : Refusal) → apply u limit ps ≡ Err e
    → IsOfApplying e
