-- What the collections are to their callers.
use Rattle.std.specs.Prelude.{ℕ}
use Rattle.pager.specs.State.{State as PagerState}

-- The pager of their file, and the root page of the turn's tree, 0 where it is empty.
pub record State (D : Type 0) : Type 0 where
  pub pager : PagerState D
  pub root : ℕ
