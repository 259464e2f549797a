-- Whether an image of the disk stands for entries, as a test: its root's tree has each page once,
-- and the list of free pages that the root names fits it.
use Rattle.std.specs.Prelude.{ℕ, zero, suc, Bool, true, false, not, ◌&&◌, ◌||◌, ◌==◌, nat_le}
use Rattle.std.specs.Prelude.{if◌then◌else◌, List, [], ◌∷◌, ◌++◌, length, Option, Some, None}
use Rattle.std.specs.Prelude.{Result, Ok, Err}
use Rattle.std.specs.List.{list_all}
use Rattle.std.specs.Str.{bytes_eq}
use Rattle.page.specs.Format.{PageModel}
use Rattle.page.specs.declared.page_fault.PageFault.{PageFault}
use Rattle.tree_model.specs.Keys.{times}
use Rattle.tree_model.specs.Tree.{Body, pages_of}
use Rattle.freelist.specs.FreeList.{ListContent, Part, first_page, named_by, room_for, times_in}
use Rattle.freelist.specs.FreeList.{pages_of as list_pages}
use Rattle.roots.specs.Image.{list_in, model_at, store_of}
use Rattle.roots.specs.Root.{root_of}
use Rattle.roots.specs.declared.opening.OpenFault.{OpenFault}
use Rattle.roots.specs.declared.root.Root.{Root}
use Rattle.file_state.specs.StateTests.{implies}
use Rattle.file_state.specs.TreeTests.{body_in, is_root}

-- each number below this one passes
abbrev pub all_below : (ℕ → Bool) → ℕ → Bool
all_below test zero = true
all_below test (suc n) = test n && all_below test n

-- one of them does
abbrev pub any_below : (ℕ → Bool) → ℕ → Bool
any_below test zero = false
any_below test (suc n) = test n || any_below test n

-- ---- numbers of pages

-- no page stands there twice
abbrev pub are_once : List ℕ → Bool
are_once pages = list_all (λ n. nat_le (times n pages) 1) pages

-- these are pages from 1 to below the page count, none of them twice
abbrev pub are_once_below : ℕ → List ℕ → Bool
are_once_below count pages = list_all (λ n. nat_le (times_in n pages) (room_for count n)) pages

-- these are all of these pages, each once
abbrev pub are_all_below : ℕ → List ℕ → Bool
are_all_below count pages =
    are_once_below count pages && all_below (λ n. times_in n pages == room_for count n) count

-- ---- the list of free pages

-- the part of a list that a page holds, if it holds one, and those behind it
abbrev pub parts_behind : Option ListContent → ℕ → (ℕ → List Part) → List Part
parts_behind None page later = []
parts_behind (Some content) page later =
    record { page = page; named = content.named } ∷ later content.next

-- the parts of a list from a page on, so many at most
abbrev pub parts_from : (ℕ → Option ListContent) → ℕ → ℕ → List Part
parts_from contents zero page = []
parts_from contents (suc most) page =
    if page == 0 then [] else parts_behind (contents page) page (parts_from contents most)

-- the page holds what this part names, and leads to this one
abbrev pub is_part : Option ListContent → Part → ℕ → Bool
is_part None part next = false
is_part (Some content) part next = content.next == next && bytes_eq content.named part.named

-- each part is what its page holds, and leads to the next
abbrev pub holds_parts : (ℕ → Option ListContent) → List Part → Bool
holds_parts contents [] = true
holds_parts contents (part ∷ rest) =
    is_part (contents part.page) part (first_page rest) && holds_parts contents rest

-- They are the list with this first page that names so many, in a file with so many pages.
abbrev pub is_free_list : (ℕ → Option ListContent) → ℕ → ℕ → ℕ → List Part → Bool
is_free_list contents page_count first count parts =
    first_page parts == first && holds_parts contents parts && length (named_by parts) == count
    && are_once_below page_count (list_pages parts ++ named_by parts)

-- They are the list that the root names, and have each page that its tree doesn't reach.
abbrev pub has_list : (ℕ → Result PageModel PageFault) → Root → List ℕ → List Part → Bool
has_list models root pages parts =
    is_free_list (list_in models) root.pages root.free_list root.free_count parts
    && implies (not (root.free_list == 0))
    (are_all_below root.pages (pages ++ (list_pages parts ++ named_by parts)))

-- the parts that the root's list would have
abbrev pub parts_in : (ℕ → Result PageModel PageFault) → Root → List Part
parts_in models root = parts_from (list_in models) root.pages root.free_list

-- ---- a file

-- The tree reaches these pages: each once, and a list fits them.
abbrev pub fits_list : (ℕ → Result PageModel PageFault) → Root → List ℕ → Bool
fits_list models root pages = are_once pages && has_list models root pages (parts_in models root)

-- the body of so many levels that the root's tree would have
abbrev pub tree_in : (ℕ → Result PageModel PageFault) → Root → (d : ℕ) → Body d
tree_in models root d =
    body_in (store_of models).page d ((store_of models).page root.tree)

-- the root's tree has so many levels above its leaves, and all fits
abbrev pub has_height : (ℕ → Result PageModel PageFault) → Root → ℕ → Bool
has_height models root d =
    is_root (store_of models) root.tree d (tree_in models root d)
    && fits_list models root (root.tree ∷ pages_of d (tree_in models root d))

-- the tree is empty, or one of at most 32 levels
abbrev pub holds_file : (ℕ → Result PageModel PageFault) → Root → Bool
holds_file models root =
    (root.tree == 0 && fits_list models root []) || any_below (has_height models root) 32

abbrev pub opens_file : (ℕ → List ℕ) → Result Root OpenFault → Bool
opens_file image (Ok root) = holds_file (model_at image root) root
opens_file image (Err fault) = false

-- the image stands for entries
unfoldable pub stands : (ℕ → List ℕ) → Bool
stands image = opens_file image (root_of (image 0) (image 1))
