-- Entries that a fold is lent.
use Rattle.std.specs.Prelude.{ℕ, List}
use Rattle.std.specs.Option.{option_map}
use Rattle.btree.specs.declared.folding.Bounds.{Bounds}
use Rattle.tree_model.specs.Keys.{Entry, window}

-- a key and its value, as an entry
abbrev pub entry_at : List ℕ → List ℕ → Entry
entry_at key value = record { key = key; value = value }

-- the entries between the bounds
abbrev pub between : Bounds → List Entry → List Entry
between bounds entries = window bounds.from.now (option_map (λ b. b.now) bounds.to) entries

-- A fold has taken some entries: so much is said on any device.
pub record HasTaken {F : Type 0} (makes : F → List Entry → F → Type 0) (start now : F)
    : Type 0 where
  pub entries : List Entry
  pub made : makes start entries now
