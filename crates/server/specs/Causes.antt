-- Why a command is refused that its definition doesn't refuse.
use Rattle.std.specs.Prelude.{◌≡◌, ◌⊎◌, ◌<◌, ◌-◌, ◌^◌, IsTrue}
use Rattle.path.specs.declared.refusal.Refusal.{Refusal}
use Rattle.path.specs.declared.refusal.Refusal.TheVariants as refusals
use Rattle.collections.specs.Calls.{IsTooLarge, IsOfFile}
use Rattle.database_model.specs.World.{World}
use Rattle.server.specs.Moment.{Moment}

-- Between these moments a page was asked for and none was free, which is counted (the count stays
-- at its greatest value).
abbrev pub FoundNoPage : Moment → Moment → Type 0
FoundNoPage old new = (old.failed_allocations < new.failed_allocations)
    ⊎ (new.failed_allocations ≡ 2 ^ 64 - 1)

-- The causes of a refusal, by the first and the last moment of its turn, and by the world that the
-- command leads to: memory ran out; or, where the disk has kept its word, the device failed; or no
-- page was free, or a tree of those collections would have 2^32 entries or more.
abbrev pub IsCaused : Moment → Moment → World → Refusal → Type 0
IsCaused old new planned refusal = (refusal ≡ refusals.OutOfMemory)
    ⊎ (((refusal ≡ refusals.StorageFailed)
    × (IsTrue new.keeps_word → old.failures < new.failures))
    ⊎ ((refusal ≡ refusals.Full)
    × (IsTrue new.keeps_word → FoundNoPage old new ⊎ IsTooLarge planned.collections)))

-- the same refusals, whatever their causes
abbrev pub OfAnyCause : World → Refusal → Type 0
OfAnyCause planned refusal = IsOfFile refusal
