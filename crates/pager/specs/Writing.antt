-- What a commit writes, and what it makes of the book and the cache.
use Rattle.std.specs.Prelude.{◌≡◌, ◌⊎◌, ℕ, ◌&&◌, ◌||◌, List, [], ◌∷◌, Some}
use Rattle.std.specs.List.{filter}
use Rattle.page.specs.Cache.{kept}
use Rattle.page.specs.Content.{is_of_tree}
use Rattle.page.specs.Format.{PageModel}
use Rattle.page.specs.declared.page_cache.PageCache.{PageCache}
use Rattle.tree_model.specs.Keys.{times}
use Rattle.freelist.specs.Book.{Book, is_in_use, is_pinned, retired}

-- the book after these pages were retired, one after the other
abbrev pub retired_all : ℕ → List ℕ → Book → Book
retired_all version [] book = book
retired_all version (page ∷ pages) book = retired_all version pages (retired page version book)

-- The pages that are written, once the others of the turn were retired at this version: those that
-- are in use, and those that wait since a pin keeps them, as far as a tree may have them.
abbrev pub written_of : ℕ → Book → List PageModel → List PageModel
written_of version book made =
    filter (λ model. is_of_tree model.content
    && (is_in_use book.states model.page || is_pinned book.pins version)) made

abbrev pub IsAmong : PageModel → List PageModel → Type 0
IsAmong model [] = ⊥
IsAmong model (other ∷ others) = (model ≡ other) ⊎ IsAmong model others

-- what is kept was kept before, or is one of these pages
abbrev pub KeepsAll : List PageModel → PageCache → PageCache → Type 0
KeepsAll pages before after = (n : ℕ) (found : PageModel) → kept after n ≡ Some found
    → (kept before n ≡ Some found) ⊎ ((found.page ≡ n) × IsAmong found pages)

-- what is kept was kept before, and is none of these pages
abbrev pub Forgets : List ℕ → PageCache → PageCache → Type 0
Forgets pages before after = (n : ℕ) (found : PageModel) → kept after n ≡ Some found
    → (kept before n ≡ Some found) × (times n pages ≡ 0)
