-- What is true of the bytes and places that a page of the tree keeps.
use Rattle.std.specs.Prelude.{◌≡◌, ℕ, ◌+◌, ◌≤◌, List, [], ◌∷◌, length, map, drop}
use Rattle.std.specs.List.{AllByRecursion, flat_map}
use Rattle.page.specs.Content.{IsLeaf, IsBranch, item_size, pivot_size}
use Rattle.page.specs.Format.{item_bytes, pivots_bytes, body_and_zeros, leaf_cell_size}
use Rattle.page.specs.Format.{branch_cell_size, pivot_in, items_at, pivots_at}

-- a cell of this size begins at the place, and ends in the bytes
abbrev pub IsWhole : (List ℕ → ℕ) → List ℕ → ℕ → Type 0
IsWhole size bytes at = at + size (drop at bytes) ≤ 4080

-- where cells of these sizes begin, one behind the other from a place on
abbrev pub starts : {X : Type 0} → (X → ℕ) → ℕ → List X → List ℕ
starts width at [] = []
starts width at (x ∷ xs) = at ∷ starts width (at + width x) xs

pub record KeepsLeaf (bytes places : List ℕ) : Type 0 where
  pub len : length bytes ≡ 4080
  pub whole : AllByRecursion (IsWhole leaf_cell_size bytes) places
  pub sound : IsLeaf (items_at bytes places)
  pub spelled : bytes ≡ body_and_zeros (flat_map item_bytes (items_at bytes places))
  pub placed : places ≡ starts item_size 0 (items_at bytes places)

pub record KeepsBranch (bytes places : List ℕ) : Type 0 where
  pub len : length bytes ≡ 4080
  pub whole : AllByRecursion (IsWhole branch_cell_size bytes) places
  pub sound : IsBranch (pivots_at bytes places)
  pub spelled : bytes ≡ body_and_zeros (pivots_bytes (pivots_at bytes places))
  pub placed : places ≡ starts pivot_size 4 (map (λ at. pivot_in (drop at bytes)) places)
