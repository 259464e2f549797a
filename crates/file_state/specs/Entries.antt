-- The entries of an image of the disk: those of the tree that its root names. Any bytes give a
-- list; where the image stands for entries, it is these.
use Rattle.std.specs.Prelude.{ℕ, zero, suc, ◌==◌, if◌then◌else◌, List, [], ◌++◌, map, Result, Ok}
use Rattle.std.specs.Prelude.{Err}
use Rattle.std.specs.List.{flat_map}
use Rattle.page.specs.Content.{Place, inline, spilled, Item, Content, leaf, branch, chain}
use Rattle.tree_model.specs.Keys.{Entry}
use Rattle.roots.specs.Image.{content_in, model_at}
use Rattle.roots.specs.Root.{root_of}
use Rattle.roots.specs.declared.opening.OpenFault.{OpenFault}
use Rattle.roots.specs.declared.root.Root.{Root}

-- what a page of the image holds; one that can't be read holds nothing
abbrev pub page_in : (ℕ → List ℕ) → Root → ℕ → Content
page_in image root page = content_in (model_at image root page)

-- the bytes of a chain's page, and behind them those from its next page on, if it names one
abbrev pub chain_part : Content → (ℕ → List ℕ) → List ℕ
chain_part (chain next bytes) later = bytes ++ (if next == 0 then [] else later next)
chain_part other later = []

-- the bytes of a chain from a page on, of so many pages at most
abbrev pub chain_from : (ℕ → Content) → ℕ → ℕ → List ℕ
chain_from pages zero page = []
chain_from pages (suc most) page = chain_part (pages page) (chain_from pages most)

-- A value lies in its cell or in a chain, each page of which has a byte of it or more.
abbrev pub value_in : (ℕ → Content) → Place → List ℕ
value_in pages (inline value) = value
value_in pages (spilled len page) = chain_from pages len page

abbrev pub entry_in : (ℕ → Content) → Item → Entry
entry_in pages item = record { key = item.key; value = value_in pages item.place }

-- the entries below a page that holds this, on so many levels below it at most
abbrev pub entries_below : (ℕ → Content) → ℕ → Content → List Entry
entries_below pages levels (leaf items) = map (entry_in pages) items
entries_below pages (suc levels) (branch pivots) =
    flat_map (λ pivot. entries_below pages levels (pages pivot.child)) pivots
entries_below pages levels other = []

-- A tree has at most 32 levels, so its leaves lie less than 32 below its root. Page 0 holds none.
abbrev pub tree_entries : (ℕ → List ℕ) → Result Root OpenFault → List Entry
tree_entries image (Ok root) =
    entries_below (page_in image root) 32 (page_in image root root.tree)
tree_entries image (Err fault) = []

-- the entries of the tree that the image's root names
unfoldable pub entries_in : (ℕ → List ℕ) → List Entry
entries_in image = tree_entries image (root_of (image 0) (image 1))
