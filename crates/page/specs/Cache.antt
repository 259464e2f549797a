-- What a cache of pages keeps.
use Rattle.std.specs.Prelude.{ℕ, Option, nat_eq}
use Rattle.std.specs.Map.{lookup}
use Rattle.page.specs.Format.{PageModel}
use Rattle.page.specs.declared.page_cache.PageCache.{PageCache}

-- the page that is kept under a number
abbrev pub kept : PageCache → ℕ → Option PageModel
kept cache page = lookup (nat_eq page) cache.pages.entries
