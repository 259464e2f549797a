-- The pages of a turn by their numbers, whatever order they were made in.
use Rattle.std.specs.Prelude.{ℕ, ◌<◌, ◌≤◌, nat_lt, if◌then◌else◌, List, [], ◌∷◌, length, map}
use Rattle.std.specs.Prelude.{get_or, take, drop}
use Rattle.std.specs.List.{AllByRecursion}
use Rattle.page.specs.Content.{leaf}
use Rattle.page.specs.Format.{PageModel}
use Rattle.tree_model.specs.Keys.{times}
use Rattle.roots.specs.Turn.{LieBehind}

-- what stands at a place where no page was made
abbrev pub no_model : PageModel
no_model = record { page = 0; generation = 0; content = leaf [] }

-- the pages that were made at these places
abbrev pub pages_at : List PageModel → List ℕ → List PageModel
pages_at made places = map (λ place. get_or made place no_model) places

-- At these places the pages that were made stand in ascending order, each of them once.
pub record IsOrderOf (made : List PageModel) (places : List ℕ) : Type 0 where
  pub ascending : LieBehind 0 (pages_at made places)
  pub inside : AllByRecursion (λ place. place < length made) places
  pub each : (place : ℕ) → place < length made → 1 ≤ times place places

-- The pages before this place in the order lie below the number, and no other one does.
pub record StandsAt (made : List PageModel) (places : List ℕ) (page at : ℕ) : Type 0 where
  pub within : at ≤ length places
  pub below : AllByRecursion (λ (model : PageModel). model.page < page)
      (take at (pages_at made places))
  pub above : AllByRecursion (λ (model : PageModel). page ≤ model.page)
      (drop at (pages_at made places))

-- the page behind those of these that lie below it, and then what comes next with the others
abbrev pub put_before : PageModel → (List PageModel → List PageModel) → List PageModel
    → List PageModel
put_before model next [] = model ∷ next []
put_before model next (other ∷ others) =
    if nat_lt model.page other.page then model ∷ next (other ∷ others)
    else other ∷ put_before model next others

-- both lists as one, in ascending order where each of them is
abbrev pub merged : List PageModel → List PageModel → List PageModel
merged [] others = others
merged (model ∷ models) others = put_before model (merged models) others
