-- What the views of cells stand for.
use Rattle.std.specs.Prelude.{ℕ, List}
use Rattle.page.specs.Content.{Place, inline, spilled, Item, Pivot}
use Rattle.page.specs.Format.{leaf_cell_size, branch_cell_size, item_in, pivot_in}
use Rattle.page.specs.declared.cells.CellForm.{CellForm}
use Rattle.page.specs.declared.cells.CellForm.TheVariants as forms
use Rattle.page.specs.declared.cells.Stored.{Stored}
use Rattle.page.specs.declared.cells.Stored.TheVariants as stored
use Rattle.page.specs.declared.cells.Cell.{Cell}
use Rattle.page.specs.declared.cells.Child.{Child}

abbrev pub place_of : Stored → Place
place_of (stored.Inline bytes) = inline bytes.now
place_of (stored.Chained len first) = spilled len first

abbrev pub item_of : Cell → Item
item_of cell = record { key = cell.key.now; place = place_of cell.stored }

abbrev pub pivot_of : Child → Pivot
pivot_of child = record { key = child.key.now; child = child.page }

-- the size of a cell of this form, by the lengths in its bytes, and its key
abbrev pub size_by : CellForm → List ℕ → ℕ
size_by forms.Leaf bytes = leaf_cell_size bytes
size_by forms.Branch bytes = branch_cell_size bytes

abbrev pub key_by : CellForm → List ℕ → List ℕ
key_by forms.Leaf bytes = (item_in bytes).key
key_by forms.Branch bytes = (pivot_in bytes).key
