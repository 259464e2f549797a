-- What the collections of a file are kept in, as their callers see it.
use Rattle.std.specs.Prelude.{ℕ, ◌==◌, Bool, not}
use Rattle.page.specs.History.{History}
use Rattle.tree_model.specs.Store.{Store}
use Rattle.roots.specs.Store as stores
use Rattle.pager.specs.View as pagers
use Rattle.collections.specs.State.{State}

-- each moment of the disk so far
abbrev pub disk_history : {D : Type 0} → (D → History) → State D → History
disk_history history c = pagers.pager_history history c.pager

-- the pages of the tree, and what the turn has done with them
abbrev pub pages_of : {D : Type 0} → (D → History) → State D → Store
pages_of history c = pagers.store_of history c.pager

-- a write or a sync has failed
abbrev pub is_stopped : {D : Type 0} → State D → Bool
is_stopped c = stores.is_stopped c.pager.store

-- The turn has changed something: its tree isn't the committed one.
abbrev pub is_changed : {D : Type 0} → State D → Bool
is_changed c = not (c.root == (stores.durable_root c.pager.store).tree)

-- the number of the last commit
abbrev pub generation : {D : Type 0} → State D → ℕ
generation c = (stores.durable_root c.pager.store).generation
