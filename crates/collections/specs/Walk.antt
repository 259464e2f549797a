-- A walk through the documents of a collection.
use Rattle.std.specs.Prelude.{◌≡◌, ℕ, ◌≤◌, ⊤, false, List, [], ◌++◌, length, drop, take, Option}
use Rattle.std.specs.Prelude.{Some, None}
use Rattle.std.specs.Option.{option_map}
use Rattle.bson.specs.Tree.{Pairs}
use Rattle.tree_model.specs.Keys.{Each, IsNotUnder, IsUnder}
use Rattle.btree.specs.declared.scanning.Entry.{Entry as OwnEntry}
use Rattle.entry_model.specs.State.{Collection}
use Rattle.entry_model.specs.StateEntries.{document_entry, key_under}
use Rattle.page.specs.History.{History, KeepsWord}
use Rattle.collections.specs.declared.walk.Walk.{Walk}
use Rattle.collections.specs.Lookups.{AreEach, IsNumbered, IsOfDocument}
use Rattle.collections.specs.Standing.{HasState}
use Rattle.collections.specs.State.{State}
use Rattle.collections.specs.View.{disk_history, is_stopped}

-- the key from which the walk goes on, or none at its end
abbrev pub next_key : Walk → Option (List ℕ)
next_key walk = option_map (λ v. v.items) walk.next

-- the keys of these documents are below this one, or there is none
abbrev pub AreBehind : ℕ → Option (List ℕ) → List Pairs → Type 0
AreBehind number None documents = ⊤
AreBehind number (Some key) documents =
    Each (λ d. IsUnder (document_entry number d).key key) documents

-- They are not below it, and where there is none, there are no documents.
abbrev pub AreAhead : ℕ → Option (List ℕ) → List Pairs → Type 0
AreAhead number None documents = documents ≡ []
AreAhead number (Some key) documents =
    IsNotUnder key (key_under number 0 [])
    × Each (λ d. IsNotUnder (document_entry number d).key key) documents

-- A walk through one of the collections, of whose documents these are still to come.
pub record IsWalk (now : List Collection) (walk : Walk) (rest : List Pairs) : Type 0 where
  pub collection : Collection
  pub numbered : IsNumbered now collection walk.number
  pub done : List Pairs
  pub all : collection.documents ≡ done ++ rest
  pub behind : AreBehind walk.number (next_key walk) done
  pub ahead : AreAhead walk.number (next_key walk) rest
  pub room : length rest ≤ walk.left

-- A walk begins with all documents of the collection of that number.
abbrev pub BeginsWalk : {D : Type 0} → (D → History) → State D → ℕ → Walk → Type 0
BeginsWalk history c number walk = is_stopped c ≡ false → KeepsWord (disk_history history c)
    → (start now : List Collection) (of : Collection) → HasState history c start now
    → IsNumbered now of number → IsWalk now walk of.documents

-- Some first ones of the documents to come: at most so many, and none only where none is to come.
pub record AreNext (limit : ℕ) (rest batch : List Pairs) : Type 0 where
  pub first : batch ≡ take (length batch) rest
  pub most : length batch ≤ limit
  pub none : batch ≡ [] → rest ≡ []

-- A batch of the documents to come, and the walk behind it.
abbrev pub StepsOn : ℕ → Walk → List Collection → List Pairs → List Pairs → Type 0
StepsOn limit walk now rest batch =
    AreNext limit rest batch × IsWalk now walk (drop (length batch) rest)

-- The entries of a batch of the documents to come, and the walk behind it.
abbrev pub HasNext : ℕ → Walk → List Collection → List Pairs → List OwnEntry → Type 0
HasNext limit walk now rest entries =
    let documents = take (length entries) rest in
    AreEach IsOfDocument entries documents × StepsOn limit walk now rest documents

-- Whatever becomes of the documents behind it, a walk goes on with those that are still to come.
abbrev pub GoesOnWalking : Type 0
GoesOnWalking =
    (before after : List Collection) (walk : Walk) (rest done : List Pairs) (c : Collection)
    → IsWalk before walk rest → IsNumbered after c walk.number → c.documents ≡ done ++ rest
    → AreBehind walk.number (next_key walk) done → IsWalk after walk rest
