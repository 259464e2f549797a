-- What steps of commands do that only read, and may be refused as planned.
use Rattle.std.specs.Prelude.{◌⊎◌, List, Result, MatchResult}
use Rattle.page.specs.History.{History, KeepsWord}
use Rattle.path.specs.declared.refusal.Refusal.{Refusal}
use Rattle.entry_model.specs.State.{Collection}
use Rattle.collections.specs.Calls.{HasReadCause}
use Rattle.engine.specs.Durable.{disk_history, file_of}
use Rattle.engine.specs.Looking.{OnlyReads}
use Rattle.engine.specs.View.{world}
use Rattle.engine.specs.declared.engine.Engine.{Engine}

-- The file was read, and nothing else was done. While the disk keeps its word, the answer is right,
-- or the refusal is, or it has its cause.
pub record MayRefuse {D X : Type 0} (history : D → History) (IsRight : X → Type 0)
    (IsRefused : Refusal
    → Type 0)
    (result : Result X Refusal) (old new : Engine D) : Type 0 where
  pub reads : OnlyReads history old new
  pub answers : KeepsWord (disk_history history new)
      → MatchResult result IsRight
      (λ e. IsRefused e ⊎ HasReadCause history (file_of old) (file_of new) e)

-- The same of what not all collections have: the answer is right for what was asked for, or the
-- refusal is, where this is so of it.
pub record MayRefuseOf {D A X : Type 0} (history : D → History) (Is : List Collection → A → Type 0)
    (IsRight : List Collection → A → X → Type 0) (IsRefused : A → Refusal → Type 0)
    (result : Result X Refusal) (old new : Engine D) : Type 0 where
  pub reads : OnlyReads history old new
  pub answers : KeepsWord (disk_history history new) → (asked : A)
      → Is (world old).collections asked
      → MatchResult result (IsRight (world old).collections asked)
      (λ e. IsRefused asked e ⊎ HasReadCause history (file_of old) (file_of new) e)
