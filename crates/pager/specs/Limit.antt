-- How many pages a file may have.
use Rattle.std.specs.Prelude.{◌≡◌, ℕ, ◌<◌, ◌≤◌, length}
use Rattle.page.specs.History.{History}
use Rattle.tree_model.specs.Keys.{times}
use Rattle.tree_model.specs.Store.{Grows}
use Rattle.roots.specs.Store.{durable_root}
use Rattle.roots.specs.Turn.{numbers_of}
use Rattle.pager.specs.State.{State}
use Rattle.pager.specs.View.{store_of}

-- the most pages that the file may have, with page 0
abbrev pub limit_of : {D : Type 0} → State D → ℕ
limit_of p = length p.book.states

-- It has no more by its last commit, and the turn made no page behind them.
pub record IsWithinLimit {D : Type 0} (p : State D) : Type 0 where
  pub file : (durable_root p.store).pages ≤ limit_of p
  pub made : (n : ℕ) → 1 ≤ times n (numbers_of p.made) → n < limit_of p

-- Law: what only reads, makes and retires pages leaves the limit as it was.
abbrev pub LimitStays : {D : Type 0} → (D → History) → Type 0
LimitStays {D = D} history =
    (old new : State D) → Grows (store_of history old) (store_of history new)
    → limit_of new ≡ limit_of old
