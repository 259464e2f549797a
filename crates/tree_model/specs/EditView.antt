-- What the program's edits are.
use Rattle.std.specs.Prelude.{◌^◌, ◌<◌, ◌≤◌, length}
use Rattle.std.specs.Option.{option_map, ForSome}
use Rattle.tree_model.specs.declared.edit.Edit.{Edit}
use Rattle.tree_model.specs.Keys.{Edit as MapEdit}

abbrev pub edit_in : Edit → MapEdit
edit_in e = record { key = e.key.now; value = option_map (λ b. b.now) e.value }

-- a key that finds room in a cell beside the longest value there, and a value that a cell can tell
-- the length of
abbrev pub HasRoom : Edit → Type 0
HasRoom e = (length e.key.now ≤ 1024) × ForSome e.value (λ b. length b.now < 2 ^ 32)
