-- How many calls of a disk are made.
use Rattle.std.specs.Prelude.{◌≡◌, ℕ, ◌+◌, ◌≤◌, Result, OnOk}
use Rattle.page.specs.History.{History, KeepsWord}

-- So many calls were made where they are done, and none of them failed; no more were made where one
-- of them failed.
pub record MakesCalls {T E : Type 0} (count : ℕ) (result : Result T E)
    (old new : History) : Type 0 where
  pub done : KeepsWord new → OnOk result (new.clock ≡ old.clock + count)
  pub clear : KeepsWord new → OnOk result (new.failures ≡ old.failures)
  pub most : KeepsWord new → new.clock ≤ old.clock + count
