-- Entries that a scan hands out.
use Rattle.std.specs.Prelude.{◌≡◌, ◌<◌, ℕ, List, None, length, map}
use Rattle.std.specs.Option.{option_map}
use Rattle.btree.specs.declared.scanning.Entry.{Entry as KeptEntry}
use Rattle.btree.specs.declared.scanning.Batch.{Batch}
use Rattle.btree.specs.declared.scanning.Filling.{Filling}
use Rattle.btree.specs.declared.scanning.Range.{Range}
use Rattle.tree_model.specs.Keys.{Entry, window}
use Rattle.tree_model.specs.Calls.{IsBatch}

abbrev pub entry_in : KeptEntry → Entry
entry_in e = record { key = e.key.items; value = e.value.items }

-- these entries, and those of the range among them
abbrev pub HoldsBatch : ℕ → List Entry → Batch → Type 0
HoldsBatch limit all batch =
    IsBatch limit all (map entry_in batch.entries.items) (option_map (λ v. v.items) batch.next)

abbrev pub within : Range → List Entry → List Entry
within range entries = window range.from.now (option_map (λ b. b.now) range.to) entries

-- what entries make of a batch that was empty
abbrev pub Fills : Filling → List Entry → Filling → Type 0
Fills start all now = (now.limit ≡ start.limit) × HoldsBatch now.limit all now.batch

-- there is room for another entry
abbrev pub HasRoom : Filling → Type 0
HasRoom now = (now.batch.next ≡ None) × (length now.batch.entries.items < now.limit)
