-- What a change gives at each step: cells or children that were taken out of pages, for a part of
-- the tree.
use Rattle.std.specs.Prelude.{◌≡◌, ℕ, suc, ◌+◌, ◌^◌, ◌<◌, ◌≤◌, ⊤, ◌⊎◌, Bool, false, List, ◌∷◌, ◌++◌}
use Rattle.std.specs.Prelude.{length, map, Option, Some, None, Result}
use Rattle.btree.specs.declared.node.LooseNode.{LooseNode}
use Rattle.btree.specs.declared.node.LooseSlot.{LooseSlot}
use Rattle.tree_model.specs.declared.pages.TreeFault.{TreeFault}
use Rattle.tree_model.specs.Calls.{Yields}
use Rattle.tree_model.specs.Keys.{Each, Entry, IsNotUnder, times}
use Rattle.btree.specs.Loose.{IsSpread, IsSlot, Slot, bare, child, first_or, slots_of}
use Rattle.btree.specs.LooseView.{slot_in}
use Rattle.tree_model.specs.Reach.{AreTurned}
use Rattle.tree_model.specs.Store.{Store, Frame, IsAt}
use Rattle.tree_model.specs.Tree.{Body, Shows, content_of, entries_of, pages_of}

-- cells or children, and how high above all pages they stand
pub record NodeModel : Type 0 where
  pub rank : ℕ
  pub slots : List Slot

abbrev pub model_in : LooseNode → NodeModel
model_in node = record { rank = node.rank; slots = map slot_in node.loose_slots.items }

-- They stand for these entries, between the bounds, and reach these pages. What is at the leaves
-- has the rank `base`.
pub record IsHeld (s : Store) (base : ℕ) (low : List ℕ) (high : Option (List ℕ))
    (entries : List Entry) (pages : List ℕ) (model : NodeModel) : Type 0 where
  pub d : ℕ
  pub body : Body d
  pub rank_is : 0 < length model.slots → model.rank ≡ base + d
  pub slots_are : model.slots ≡ slots_of d body
  pub small : Each IsSlot model.slots
  pub spread : IsSpread d low high body
  pub shown : Shows s d body
  pub entries_are : entries_of d body ≡ entries
  pub pages_are : (n : ℕ) → times n (pages_of d body) ≡ times n pages

pub record IsTurned (old new : Store) (base : ℕ) (low : List ℕ) (high : Option (List ℕ))
    (entries : List Entry) (before : List ℕ) (model : NodeModel) : Type 0 where
  pub after : List ℕ
  pub held : IsHeld new base low high entries after model
  pub turned : AreTurned old new before after

abbrev pub Turns : Store → Store → ℕ → List ℕ → Option (List ℕ) → List Entry → List ℕ
    → Result LooseNode TreeFault → Type 0
Turns old new base low high entries before result =
    Yields old new (λ node. IsTurned old new base low high entries before (model_in node)) result

-- a bound that no other is above
abbrev pub IsUpTo : List ℕ → Option (List ℕ) → Type 0
IsUpTo mid None = ⊤
IsUpTo mid (Some high) = IsNotUnder high mid

-- a part was written to a page, and this stands for it above
pub record IsWritten (old new : Store) (d : ℕ) (body : Body d) (slot : Slot) : Type 0 where
  pub page : ℕ
  pub range : page < 2 ^ 32
  pub at : IsAt new page (content_of d (bare d body))
  pub made : new.made ≡ page ∷ old.made
  pub retired : new.retired ≡ old.retired
  pub load : slot.load ≡ child page
  pub key : first_or None (slots_of d body) ≡ Some slot.key

abbrev pub WritesPart : Store → Store → (d : ℕ) → Body d → Result LooseSlot TreeFault → Type 0
WritesPart old new d body result =
    Yields old new (λ loose_slot. IsWritten old new d body (slot_in loose_slot)) result

-- A body was cut and written: it stands one level up.
pub record AreWritten (old new : Store) (d : ℕ) (low : List ℕ) (high : Option (List ℕ))
    (body : Body d) (above : List Slot) : Type 0 where
  pub subtrees : Body (suc d)
  pub above_are : above ≡ slots_of (suc d) subtrees
  pub small : Each IsSlot above
  pub spread : IsSpread (suc d) low high subtrees
  pub shown : Shows new (suc d) subtrees
  pub entries : entries_of (suc d) subtrees ≡ entries_of d body
  pub pages : (n : ℕ)
      → times n (pages_of (suc d) subtrees) + times n old.made ≡ times n (pages_of d body)
      + times n new.made
  pub retired : new.retired ≡ old.retired

abbrev pub WritesParts : {V : Type 0} → (V → List Slot) → Store → Store → (d : ℕ) → List ℕ
    → Option (List ℕ) → Body d → Result V TreeFault → Type 0
WritesParts slots old new d low high body result =
    Yields old new (λ loose_slots. AreWritten old new d low high body (slots loose_slots)) result

-- leaves alone are filled
abbrev pub MayFill : ℕ → Bool → Type 0
MayFill d fills = (d ≡ 0) ⊎ (fills ≡ false)

-- Enough for a page: a cell of a leaf, or two children.
abbrev pub IsReady : ℕ → NodeModel → Type 0
IsReady base model = (0 < length model.slots) × ((model.rank ≡ base) ⊎ (2 ≤ length model.slots))

-- A part of a tree came apart in two.
pub record AreParted (old new : Store) (base : ℕ) (low : List ℕ) (high : Option (List ℕ))
    (entries : List Entry) (before : List ℕ) (front back : NodeModel) : Type 0 where
  pub mid : List ℕ
  pub front_entries : List Entry
  pub back_entries : List Entry
  pub front_pages : List ℕ
  pub back_pages : List ℕ
  pub entries_are : front_entries ++ back_entries ≡ entries
  pub front_held : IsHeld new base low (Some mid) front_entries front_pages front
  pub back_held : IsHeld new base mid high back_entries back_pages back
  pub turned : AreTurned old new before (front_pages ++ back_pages)
  pub over : IsNotUnder mid low
  pub within : IsUpTo mid high

abbrev pub both_of : NodeModel → NodeModel → NodeModel
both_of a b = record { rank = a.rank; slots = a.slots ++ b.slots }

-- What ends where these begin goes together with them.
abbrev pub GoesBefore : Store → ℕ → List ℕ → Option (List ℕ) → Option (List ℕ) → List Entry
    → List ℕ → NodeModel → Type 0
GoesBefore old base low between high last pages back =
    (s : Store) (more : List Entry) (reached : List ℕ) (model : NodeModel) → Frame old s
    → IsHeld s base low between more reached model → model.rank ≡ back.rank
    → IsHeld s base low high (more ++ last) (reached ++ pages) (both_of model back)

-- The first child was taken off. What ends where it ended goes together with the others, if there
-- are any.
pub record IsFirstCut (old new : Store) (base : ℕ) (low : List ℕ) (high : Option (List ℕ))
    (entries : List Entry) (before : List ℕ) (front back : NodeModel) : Type 0 where
  pub between : Option (List ℕ)
  pub front_entries : List Entry
  pub back_entries : List Entry
  pub front_pages : List ℕ
  pub back_pages : List ℕ
  pub entries_are : front_entries ++ back_entries ≡ entries
  pub front_held : IsHeld new base low between front_entries front_pages front
  pub within : IsUpTo low between
  pub turned : AreTurned old new before (front_pages ++ back_pages)
  pub glue : (low' : List ℕ) → IsNotUnder low low'
      → GoesBefore new base low' between high back_entries back_pages back

-- The last child, or the first one, was taken off and read.
abbrev pub PartsLast : Store → Store → ℕ → List ℕ → Option (List ℕ) → List Entry → List ℕ
    → Result (LooseNode × LooseNode) TreeFault → Type 0
PartsLast old new base low high entries before result =
    Yields old new
    (λ parts. AreParted old new base low high entries before (model_in parts.0) (model_in parts.1)
    × IsReady base (model_in parts.1)) result

abbrev pub PartsFirst : Store → Store → ℕ → List ℕ → Option (List ℕ) → List Entry → List ℕ
    → Result (LooseNode × LooseNode) TreeFault → Type 0
PartsFirst old new base low high entries before result =
    Yields old new
    (λ parts. IsFirstCut old new base low high entries before (model_in parts.0) (model_in parts.1)
    × IsReady base (model_in parts.0)) result

-- a page was taken apart
abbrev pub Opens : Store → Store → ℕ → List ℕ → Option (List ℕ) → List Entry → List ℕ
    → Result LooseNode TreeFault → Type 0
Opens old new base low high entries before result =
    Yields old new
    (λ node. IsTurned old new base low high entries before (model_in node)
    × IsReady base (model_in node)) result

-- What stands at one height is no shorter than what is joined with it.
pub record IsJoined (left right both : NodeModel) : Type 0 where
  pub left_higher : right.rank ≤ left.rank → 0 < length left.slots
      → (both.rank ≡ left.rank) × (length left.slots ≤ length both.slots)
  pub right_higher : left.rank ≤ right.rank → 0 < length right.slots
      → (both.rank ≡ right.rank) × (length right.slots ≤ length both.slots)
