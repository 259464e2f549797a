-- What a pager is to its callers.
use Rattle.std.specs.Prelude.{ℕ, List}
use Rattle.page.specs.Format.{PageModel}
use Rattle.freelist.specs.Book.{Book}
use Rattle.roots.specs.declared.store.Store.{Store}

-- The store of the tree that is committed; the pages that the turn made and the numbers that
-- it retired, each in the order of the calls; the book of free pages. The pages that
-- are kept in memory are no part of it.
pub record State (D : Type 0) : Type 0 where
  pub store : Store D
  pub made : List PageModel
  pub retired : List ℕ
  pub book : Book
