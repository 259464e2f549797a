-- What a turn hands to a commit: the pages that it made, and the root page of its tree.
use Rattle.std.specs.Prelude.{◌≡◌, ℕ, ◌+◌, ◌<◌, max, if◌then◌else◌, ◌==◌, List, [], ◌∷◌, map}
use Rattle.std.specs.Prelude.{Result, Ok}
use Rattle.std.specs.List.{AllByRecursion}
use Rattle.page.specs.History.{History, KeepsWord, now, reads}
use Rattle.page.specs.Format.{PageModel, page_bytes}
use Rattle.page.specs.Page.{page_at}
use Rattle.page.specs.PageLaws.{IsPageModel}
use Rattle.page.specs.declared.page_fault.PageFault.{PageFault}
use Rattle.tree_model.specs.Keys.{Entry, times}
use Rattle.freelist.specs.FreeList.{Part}
use Rattle.roots.specs.Image.{HasList, HoldsMap, reached_by, model_at}
use Rattle.roots.specs.declared.root.Root.{Root}

abbrev pub numbers_of : List PageModel → List ℕ
numbers_of models = map (λ model. model.page) models

-- each page lies behind the one before it, the first behind this one
abbrev pub LieBehind : ℕ → List PageModel → Type 0
LieBehind last [] = Unit {0}
LieBehind last (model ∷ models) = (last < model.page) × LieBehind model.page models

-- the page of this number among those that were made, or else the other
abbrev pub made_or : List PageModel → ℕ → Result PageModel PageFault → Result PageModel PageFault
made_or [] page other = other
made_or (model ∷ models) page other =
    if model.page == page then Ok model else made_or models page other

-- the image has these pages
abbrev pub AreWritten : (ℕ → List ℕ) → List PageModel → Type 0
AreWritten image made =
    AllByRecursion (λ (model : PageModel). page_at image model.page ≡ page_bytes model) made

-- the number of pages of a file that ends behind these, with page 0
abbrev pub end_behind : ℕ → List PageModel → ℕ
end_behind end [] = end
end_behind end (model ∷ models) = end_behind (model.page + 1) models

-- The root of the next commit, with its list's first page and how many pages that names. The number
-- of pages never falls.
abbrev pub next_root : Root → List PageModel → ℕ → ℕ → ℕ → Root
next_root root made tree free_list free_count = record {
  generation = root.generation + 1;
  tree = tree;
  pages = max root.pages (end_behind 1 made);
  free_list = free_list;
  free_count = free_count;
}

-- The turn's pages, its list's own too, ascend and lie in a file of at most 1,048,576 pages, and
-- the root that is committed reaches none of them. The tree below the next root's page, in these
-- and in what the disk's other pages hold, reaches these pages, each once, and has these entries;
-- the list that the next root names, if it names one, fits that tree.
pub record IsTurn (h : History) (root : Root) (live : List ℕ) (made : List PageModel) (next : Root)
    (pages : List ℕ) (entries : List Entry) : Type 0 where
  pub ascending : LieBehind 0 made
  pub inside : AllByRecursion (λ (model : PageModel). model.page < 1048576) made
  pub models : AllByRecursion (IsPageModel (root.generation + 1)) made
  pub free : KeepsWord h → (parts : List Part)
      → HasList (model_at (reads (now h)) root) root live parts
      → AllByRecursion (λ (model : PageModel). times model.page (reached_by live parts) ≡ 0) made
  pub holds : KeepsWord h
      → HoldsMap (λ n. made_or made n (model_at (reads (now h)) next n)) next pages entries
