-- A disk whose word counts only where something is true.
use Rattle.std.specs.Prelude.{Bool, ◌&&◌}
use Rattle.page.specs.History.{History}
use Rattle.trusted_disk.specs.declared.disk.TrustedDisk.{TrustedDisk}

-- The same calls, sectors and failures. The word is kept where it was, and this is true.
abbrev pub trusting : Bool → History → History
trusting b h = record h { keeps_word = h.keeps_word && b }

-- the disk as it is, and what is told at the making
abbrev pub trusting_disk : {D : Type 0} → Bool → D → TrustedDisk D
trusting_disk b disk = record { disk = disk; trusted = record { value = b } }

-- what was told at the making
abbrev pub is_trusted : {D : Type 0} → TrustedDisk D → Bool
is_trusted t = t.trusted.value

-- each moment of the disk inside so far
abbrev pub disk_history : {D : Type 0} → (D → History) → TrustedDisk D → History
disk_history history t = history t.disk

-- the same moments, with its word only where it is trusted
abbrev pub trusted_history : {D : Type 0} → (D → History) → TrustedDisk D → History
trusted_history history t = trusting (is_trusted t) (disk_history history t)
