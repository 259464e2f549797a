-- How many pages a change makes, at most.
use Rattle.std.specs.Prelude.{◌≡◌, ℕ, suc, ◌+◌, ◌-◌, ◌*◌, ◌/◌, ◌^◌, ◌<◌, ◌≤◌, ◌⊎◌, leb, List}
use Rattle.std.specs.Prelude.{length, take, Option, Some, None, Result, MatchResult, if◌then◌else◌}
use Rattle.std.proofs.Common.{inl, inr}
use Rattle.btree.specs.declared.node.LooseNode.{LooseNode}
use Rattle.tree_model.specs.declared.pages.TreeFault.{TreeFault}
use Rattle.tree_model.specs.Keys.{Each, Edit, Entry}
use Rattle.btree.specs.Loose.{IsChild, IsSlot, Slot, slots_size}
use Rattle.tree_model.specs.Reach.{HasMap}
use Rattle.tree_model.specs.Store.{KeepsWord, Store}
use Rattle.btree.specs.Turn.{NodeModel, model_in}

-- ---- what the calls of a tree promise

-- the levels of a tree: none of the empty one, one of a single leaf
abbrev pub levels_of : {s : Store} {root : ℕ} {pages : List ℕ} {entries : List Entry}
    → HasMap s root pages entries → ℕ
levels_of (inl empty) = 0
levels_of (inr tree) = suc tree.d

-- the pages of a value's chain: none for up to 330 bytes, which lie in the cell
abbrev pub chain_pages : List ℕ → ℕ
chain_pages value = if leb (length value) 330 then 0 else (length value + 4075) / 4076

-- so many pages were made, at most
abbrev pub MakesUpTo : Store → Store → ℕ → Type 0
MakesUpTo old new pages = length new.made ≤ length old.made + pages

-- While the device keeps its word, so many pages were made at most, whether the change was made or
-- not.
abbrev pub Costs : Store → Store → ℕ → Type 0
Costs old new pages = KeepsWord new → MakesUpTo old new pages

-- ---- edits of a leaf's cells

abbrev pub put_pages : Option (List ℕ) → ℕ
put_pages None = 0
put_pages (Some value) = chain_pages value

abbrev pub edit_pages : Edit → ℕ
edit_pages e = put_pages e.value

-- ---- room in a page

abbrev pub value_room : List ℕ → ℕ
value_room value = if leb (length value) 330 then length value else 4

-- the bytes of a cell of this key and value, or none
abbrev pub put_room : List ℕ → Option (List ℕ) → ℕ
put_room key None = 0
put_room key (Some value) = 6 + length key + value_room value

abbrev pub edit_room : Edit → ℕ
edit_room e = put_room e.key e.value

-- ---- what stands in no page

-- Cells or children of this rank, of so many bytes at most. So many pages were made, at most.
pub record IsFew (old new : Store) (rank bytes pages : ℕ) (model : NodeModel) : Type 0 where
  pub rank_is : model.rank ≡ rank
  pub small : Each IsSlot model.slots
  pub size : slots_size model.slots ≤ bytes
  pub made : MakesUpTo old new pages

-- that, or a fault by which no more were made
abbrev pub EndsFew : Store → Store → ℕ → ℕ → ℕ → Result LooseNode TreeFault → Type 0
EndsFew old new rank bytes pages result =
    MatchResult result (λ node. IsFew old new rank bytes pages (model_in node))
    (λ e. MakesUpTo old new pages)

abbrev pub GivesFew : Store → Store → ℕ → ℕ → ℕ → Result LooseNode TreeFault → Type 0
GivesFew old new rank bytes pages result =
    KeepsWord new → EndsFew old new rank bytes pages result

-- The same, or it was written to one page, and this stands for it above.
abbrev pub IsFewOrOne : Store → Store → ℕ → ℕ → ℕ → NodeModel → Type 0
IsFewOrOne old new rank bytes pages model =
    IsFew old new rank bytes pages model ⊎ IsFew old new (rank + 1) 1360 (pages + 1) model

-- that, or a fault by which no more were made
abbrev pub EndsFewOrOne : Store → Store → ℕ → ℕ → ℕ → Result LooseNode TreeFault → Type 0
EndsFewOrOne old new rank bytes pages result =
    MatchResult result (λ node. IsFewOrOne old new rank bytes pages (model_in node))
    (λ e. MakesUpTo old new (pages + 1))

abbrev pub GivesFewOrOne : Store → Store → ℕ → ℕ → ℕ → Result LooseNode TreeFault → Type 0
GivesFewOrOne old new rank bytes pages result =
    KeepsWord new → EndsFewOrOne old new rank bytes pages result

-- One child was taken off, and what stood in its page.
pub record AreFewOff (old new : Store) (slots : List Slot) (others opened : NodeModel) : Type 0
  where
    pub small : Each IsSlot others.slots
    pub size : slots_size others.slots ≤ slots_size slots
    pub opened_small : Each IsSlot opened.slots
    pub opened_size : slots_size opened.slots ≤ 5440
    pub made : MakesUpTo old new 0

abbrev pub IsLittle : ℕ → NodeModel → Type 0
IsLittle bytes model = Each IsSlot model.slots × (slots_size model.slots ≤ bytes)

abbrev pub IsOneChild : List Slot → Type 0
IsOneChild slots = (length slots ≡ 1) × Each (λ s. IsChild s.load) slots

-- What stands at one height goes together with no page made. What stands one level below the other,
-- and has so many bytes at most, makes four pages at most.
pub record AreFewJoined (old new : Store) (bytes : ℕ) (left right both : NodeModel) : Type 0 where
  pub level : left.rank ≡ right.rank
      → IsFew old new left.rank (slots_size left.slots + slots_size right.slots) 0 both
  pub behind : left.rank ≡ right.rank + 1 → 0 < length left.slots → slots_size right.slots ≤ bytes
      → IsFew old new left.rank (slots_size left.slots + 5440) 4 both
  pub before : left.rank + 1 ≡ right.rank → 0 < length right.slots → slots_size left.slots ≤ bytes
      → IsFew old new right.rank (slots_size right.slots + 5440) 4 both

-- No more were made where they weren't joined.
pub record AreNotJoined (old new : Store) (bytes : ℕ) (left right : NodeModel) : Type 0 where
  pub level : left.rank ≡ right.rank → MakesUpTo old new 0
  pub behind : left.rank ≡ right.rank + 1 → 0 < length left.slots → slots_size right.slots ≤ bytes
      → MakesUpTo old new 4
  pub before : left.rank + 1 ≡ right.rank → 0 < length right.slots → slots_size left.slots ≤ bytes
      → MakesUpTo old new 4

abbrev pub EndsJoined : ℕ → Store → Store → NodeModel → NodeModel → Result LooseNode TreeFault
    → Type 0
EndsJoined bytes old new left right result =
    MatchResult result (λ both. AreFewJoined old new bytes left right (model_in both))
    (λ e. AreNotJoined old new bytes left right)

abbrev pub JoinsFew : ℕ → Store → Store → NodeModel → NodeModel → Result LooseNode TreeFault
    → Type 0
JoinsFew bytes old new left right result =
    KeepsWord new → Each IsSlot left.slots → Each IsSlot right.slots
    → EndsJoined bytes old new left right result

-- What was below one child stands between its neighbours again. At their height it goes together
-- with them, with no page made; one level below them, it makes four pages at most.
pub record AreFewSettled (old new : Store) (left below right both : NodeModel) : Type 0 where
  pub level : left.rank ≡ right.rank → below.rank ≡ left.rank → IsFew old new left.rank
      (slots_size left.slots + (slots_size below.slots + slots_size right.slots)) 0 both
  pub lower : left.rank ≡ right.rank → below.rank + 1 ≡ left.rank
      → 0 < length left.slots + length right.slots → slots_size below.slots ≤ 10880
      → IsFew old new left.rank (slots_size left.slots + (slots_size right.slots + 5440)) 4 both

-- No more were made where it doesn't stand there.
pub record AreNotSettled (old new : Store) (left below right : NodeModel) : Type 0 where
  pub level : left.rank ≡ right.rank → below.rank ≡ left.rank → MakesUpTo old new 0
  pub lower : left.rank ≡ right.rank → below.rank + 1 ≡ left.rank
      → 0 < length left.slots + length right.slots → slots_size below.slots ≤ 10880
      → MakesUpTo old new 4

abbrev pub EndsSettled : Store → Store → NodeModel → NodeModel → NodeModel
    → Result LooseNode TreeFault → Type 0
EndsSettled old new left below right result =
    MatchResult result (λ both. AreFewSettled old new left below right (model_in both))
    (λ e. AreNotSettled old new left below right)

abbrev pub SettlesFew : Store → Store → NodeModel → NodeModel → NodeModel
    → Result LooseNode TreeFault → Type 0
SettlesFew old new left below right result =
    KeepsWord new → Each IsSlot left.slots → Each IsSlot below.slots → Each IsSlot right.slots
    → EndsSettled old new left below right result

-- A part in front is all that there is, or it takes two thirds of a page, or a third where one page
-- more has room for the rest.
abbrev pub IsFullPart : List Slot → ℕ → Type 0
IsFullPart slots at = (length slots ≤ at)
    ⊎ ((4080 < slots_size slots)
    × ((2720 ≤ slots_size (take at slots))
    ⊎ ((1360 ≤ slots_size (take at slots)) × (slots_size slots ≤ 5440))))

-- One page was made, and this stands for it.
pub record IsOnePage (old new : Store) (slots : List Slot) (above : Slot) : Type 0 where
  pub made : length new.made ≡ length old.made + 1
  pub child : IsChild above.load
  pub small : Each IsSlot slots → IsSlot above

-- Of so many bytes no more pages were written than 2,720 for each but one make.
abbrev pub WritesUpTo : Store → Store → ℕ → Type 0
WritesUpTo old new bytes = 2720 * length new.made ≤ 2720 * length old.made + (bytes + 2719)

-- These pages were written of so many bytes: more than 2,720 for each but one.
pub record AreFewPages (old new : Store) (bytes : ℕ) (above : List Slot) : Type 0 where
  pub made : length new.made ≡ length old.made + length above
  pub few : 2720 * length above ≤ bytes + 2719
  pub children : Each (λ s. IsChild s.load) above
  pub small : Each IsSlot above

-- What is left to write up to the root has 2,720 bytes, doubled so often; with what was made it
-- takes so many pages at most.
pub record IsFewTop (old new : Store) (most : ℕ) (top : NodeModel) : Type 0 where
  pub halvings : ℕ
  pub pages : ℕ
  pub little : IsLittle (2720 * 2 ^ halvings) top
  pub made : MakesUpTo old new pages
  pub enough : pages + (2 * 2 ^ halvings - 1) ≤ most

-- that, or a fault by which no more were made
abbrev pub EndsTop : Store → Store → ℕ → Result LooseNode TreeFault → Type 0
EndsTop old new most result = MatchResult result (λ top. IsFewTop old new most (model_in top))
    (λ e. MakesUpTo old new most)
