-- What a commit is to write.
use Rattle.std.specs.Prelude.{◌≡◌, ℕ, ◌+◌, ◌-◌, ◌^◌, ◌<◌, max, min, List, length}
use Rattle.std.specs.List.{AllByRecursion}
use Rattle.page.specs.Content.{IsContent}
use Rattle.page.specs.Format.{PageModel}
use Rattle.freelist.specs.Book.{Book, refused}
use Rattle.freelist.specs.FreeList.{first_page, written}
use Rattle.freelist.specs.ListWriting.{GoesBack, HasNoRoom, IsMade}
use Rattle.roots.specs.Listed.{list_models}
use Rattle.roots.specs.Turn.{end_behind}
use Rattle.roots.specs.declared.root.Root.{Root}
use Rattle.roots.specs.declared.store.CommitFault.{CommitFault}
use Rattle.roots.specs.declared.store.CommitFault.TheVariants as faults
use Rattle.pager.specs.Order.{merged}
use Rattle.pager.specs.Writing.{retired_all, written_of}
use Rattle.pager.specs.declared.planning.Plan.{Plan}

-- the number of the next commit, where there is a greater one
abbrev pub next_generation : Root → ℕ
next_generation root = min (root.generation + 1) (2 ^ 64 - 1)

-- how many pages a file with this root has once these are written
abbrev pub pages_with : Root → List PageModel → ℕ
pages_with root models = max root.pages (end_behind 1 models)

-- A commit was planned: these pages are retired, a list is made of what is free then, and its pages
-- are written with those of the turn that are in use or wait, in ascending order where the turn's
-- are.
pub record IsPlanned (root : Root) (made : List PageModel) (pages : List ℕ) (plan : Plan)
    (old new : Book) : Type 0 where
  -- what the list names
  pub named : List ℕ
  pub writes : let mid = retired_all root.generation pages old in
      let tree = written_of root.generation mid made in
      plan.written.items
      ≡ merged tree (list_models (next_generation root) (written plan.listed.items named))
  pub content : let mid = retired_all root.generation pages old in
      let tree = written_of root.generation mid made in
      AllByRecursion (λ (model : PageModel). IsContent model.content) tree
  pub list : let mid = retired_all root.generation pages old in
      let tree = written_of root.generation mid made in
      AllByRecursion (λ (model : PageModel). model.page < 1048576) tree
      → IsMade (pages_with root tree) plan.listed.items named mid new
  pub first : plan.free_list ≡ first_page (written plan.listed.items named)
  pub count : plan.free_count ≡ min (length named) (2 ^ 32 - 1)

-- Once these pages are retired, a list of what is free then lacks room on all pages that are free.
abbrev pub LacksRoom : Root → List PageModel → List ℕ → Book → Type 0
LacksRoom root made pages old =
    let mid = retired_all root.generation pages old in
    let tree = written_of root.generation mid made in
    AllByRecursion (λ (model : PageModel). model.page < 1048576) tree
    → HasNoRoom (pages_with root tree) mid

-- No commit was planned: want of memory changes nothing, and that no page is free for the list is
-- counted.
abbrev pub PlanFails : Root → List PageModel → List ℕ → CommitFault → Book → Book → Type 0
PlanFails root made pages faults.Memory old new = new ≡ old
PlanFails root made pages faults.Full old new = LacksRoom root made pages old × (new ≡ refused old)
PlanFails root made pages faults.Device old new = ⊥

-- the same once all is taken back
abbrev pub FallsBack : Root → List PageModel → List ℕ → CommitFault → Book → Book → Type 0
FallsBack root made pages faults.Memory old new = GoesBack old old new
FallsBack root made pages faults.Full old new =
    LacksRoom root made pages old × GoesBack old (refused old) new
FallsBack root made pages faults.Device old new = ⊥
