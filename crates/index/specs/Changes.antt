-- What a document's keys in an index become where another replaces it.
use Rattle.std.specs.Prelude.{ℕ, Bool, not, List}
use Rattle.std.specs.List.{filter, list_any}
use Rattle.std.specs.List.Sorted.{IsStrictlySortedBy}
use Rattle.std.specs.Ordering.{eq_by_cmp}
use Rattle.value_order.specs.Order.{bytes_cmp}

-- each key is below those behind it
abbrev pub IsAscending : List (List ℕ) → Type 0
IsAscending keys = IsStrictlySortedBy bytes_cmp keys

abbrev pub is_among : List (List ℕ) → List ℕ → Bool
is_among keys key = list_any (eq_by_cmp bytes_cmp key) keys

-- The keys that are none of the others: those of the old document without the new one's are
-- removed, the other way round they are added.
abbrev pub without : List (List ℕ) → List (List ℕ) → List (List ℕ)
without keys others = filter (λ key. not (is_among others key)) keys
