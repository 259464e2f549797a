-- A branch with another page for one child, or with other children.
use Rattle.std.specs.Prelude.{ℕ, zero, suc, ◌+◌, List, [], ◌∷◌, ◌++◌, length, take, drop}
use Rattle.page.specs.Content.{Pivot, pivot_size}

-- the children with another page for the one at this place
abbrev pub with_child : ℕ → ℕ → List Pivot → List Pivot
with_child i page [] = []
with_child zero page (pivot ∷ pivots) = record { key = pivot.key; child = page } ∷ pivots
with_child (suc i) page (pivot ∷ pivots) = pivot ∷ with_child i page pivots

-- where the number of a child's page stands behind the first child, and where it stands behind the
-- header
abbrev pub later_place : ℕ → List Pivot → ℕ
later_place i [] = 0
later_place zero (pivot ∷ pivots) = 2 + length pivot.key
later_place (suc i) (pivot ∷ pivots) = pivot_size pivot + later_place i pivots

abbrev pub page_place : ℕ → List Pivot → ℕ
page_place i [] = 0
page_place zero (first ∷ pivots) = 0
page_place (suc i) (first ∷ pivots) = 4 + later_place i pivots

-- the children with these in place of those from one place to below another
abbrev pub exchanged : ℕ → ℕ → List Pivot → List Pivot → List Pivot
exchanged from to new pivots = take from pivots ++ (new ++ drop to pivots)
