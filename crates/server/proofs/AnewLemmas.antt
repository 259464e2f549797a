-- A new disk in memory holds no collection, and no others beside: it is trusted, and keeps its word.
use Rattle.std.proofs.Common.{◌≡◌, ℕ, true, List, [], arith}
use Rattle.std.specs.Prelude.{replicate}
use Rattle.page.specs.Crash.{ExtendsHistory}
use Rattle.page.specs.History.{HasTime, KeepsWord, now, reads}
use Rattle.page.specs.Memory.{memory_history}
use Rattle.page.specs.declared.memory.MemDisk.{MemDisk}
use Rattle.trusted_disk.proofs.TrustingLemmas.{tells_word}
use Rattle.engine.proofs.EmptyImage.{zeros_hold_nothing}
use Rattle.server.specs.Durable.{collections_of, disk_history}
use Rattle.server.specs.Opening.{IsCoreOpened, inner_history, is_trusted}
use Rattle.server.specs.declared.turn.Core.{Core}

module _ (disk : MemDisk) (first : Core MemDisk) (opened : IsCoreOpened memory_history disk first)
    (even : reads (now (memory_history disk)) 0 ≡ replicate 512 0) (odd : reads (now (memory_history disk)) 1 ≡ replicate 512 0) where
  told : (is_trusted first ≡ true) × (collections_of first ≡ [])
  told = opened.engine.trusted [] (zeros_hold_nothing (reads (now (memory_history disk))) even odd)

  pub anew_empty : collections_of first ≡ []
  anew_empty = told.1

  pub anew_word : (last : Core MemDisk) → KeepsWord (memory_history disk) → ExtendsHistory (disk_history memory_history first)
      (disk_history memory_history last)
      → HasTime (disk_history memory_history last) → KeepsWord (disk_history memory_history last)
  anew_word last word extends time =
      let inner = inner_history memory_history first in
      let before : HasTime inner = omega (arith, extends.clock, time) in
      extends.keeps ((tells_word (is_trusted first) inner).1 (opened.engine.extends.keeps word before, told.0)) time
