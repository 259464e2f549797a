-- What the program's pages hold, by names that the tree's own words leave free.
use Rattle.page.specs.Content.{Place, Item, Pivot, Content}
use Rattle.page.specs.CellView.{place_of, item_of, pivot_of}
use Rattle.page.specs.View.{content_of}
use Rattle.page.specs.declared.cells.Stored.{Stored}
use Rattle.page.specs.declared.cells.Cell.{Cell}
use Rattle.page.specs.declared.cells.Child.{Child}
use Rattle.page.specs.declared.page_content.PageContent.{PageContent}

abbrev pub place_in : Stored → Place
place_in stored = place_of stored

abbrev pub item_in : Cell → Item
item_in cell = item_of cell

abbrev pub pivot_in : Child → Pivot
pivot_in child = pivot_of child

abbrev pub content_in : PageContent → Content
content_in content = content_of content
