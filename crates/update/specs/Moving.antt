-- Fields that move together: at their old paths and at their new ones nothing is left, and then
-- each is put at its new path.
use Rattle.std.specs.Prelude.{◌≡◌, true, false, List, [], ◌∷◌, Result, Ok, Err}
use Rattle.std.specs.List.{list_all, list_any}
use Rattle.bson.specs.Tree.{Tree, document, Pairs}
use Rattle.bson.specs.View.{tree}
use Rattle.outcome.specs.Outcome.{Fails}
use Rattle.path.specs.declared.refusal.Refusal.{Refusal}
use Rattle.path.specs.declared.refusal.Refusal.TheVariants as refusals
use Rattle.path.specs.Edits.{if_ok, set_at}
use Rattle.path.specs.Parts.{meets}
use Rattle.path.specs.Place.{passes_array}
use Rattle.update.specs.Unsets.{is_unset, cut_all}
use Rattle.update_model.specs.Update.{Path, unset, Edit, paths_of, meets_any}
use Rattle.update.specs.declared.moving.Moved.{Moved}

abbrev pub unset_of : Path → Edit
unset_of path = record { path = path; action = unset }

-- a new path, and what moves there
abbrev pub move_of : Moved → Path × Tree
move_of m = (m.path, tree m.value)

-- with each at its new path, one after the other
abbrev pub put_all : List (Path × Tree) → Pairs → Result Pairs Refusal
put_all [] ps = Ok ps
put_all (m ∷ ms) ps = if_ok (set_at m.0 m.1 ps) (put_all ms)

-- the document before, what is taken away from it, and what is put there then
abbrev pub Moves : Type 0
Moves = Pairs × (List Edit × List (Path × Tree))

abbrev pub all_moved : Moves → Result Pairs Refusal
all_moved m = put_all m.1.1 (cut_all m.1.0 m.0)

-- the path meets none to which something moves
abbrev pub MeetsNone : Path → List (Path × Tree) → Type 0
MeetsNone path [] = Unit {0}
MeetsNone path (m ∷ ms) = (meets path m.0 ≡ false) × MeetsNone path ms

-- none of these meets another, and none leads through an array
abbrev pub AreApart : Pairs → List (Path × Tree) → Type 0
AreApart ps [] = Unit {0}
AreApart ps (m ∷ ms) =
    (passes_array m.0 (document ps) ≡ false) × (MeetsNone m.0 ms × AreApart ps ms)

-- the fields may move together
pub record MayMove (ps : Pairs) (gone : List Edit) (moved : List (Path × Tree)) : Type 0 where
  pub unsets : list_all is_unset gone ≡ true
  pub apart : AreApart (cut_all gone ps) moved
  -- what meets nothing that is taken away meets no new path
  pub among : (path : Path) → list_any (λ e. meets_any path (paths_of e)) gone ≡ false
      → MeetsNone path moved

-- what was returned makes of the document what is planned, unless memory ran out
abbrev pub GivesMoves : Result Moves Refusal → Result Pairs Refusal → Type 0
GivesMoves (Ok m) planned = planned ≡ all_moved m
GivesMoves (Err e) planned = Fails refusals.OutOfMemory e planned
