-- Where a document or a collection stands among others in their order, or would stand.
use Rattle.std.specs.Prelude.{◌≡◌, ℕ, ◌<◌, ◌≤◌, List, length, Some, None, Result, Ok, Err}
use Rattle.std.specs.Prelude.{slice_set, slice_index_or, insert, []}
use Rattle.std.specs.List.{AllWithin}
use Rattle.std.specs.Ordering.{nat_cmp}
use Rattle.value_order.specs.Order.{compare}
use Rattle.std.specs.Cmp.Lexicographic.{slice_cmp}
use Rattle.std.specs.declared.cmp.Ordering.{Ordering}
use Rattle.std.specs.declared.cmp.Ordering.TheVariants as orders
use Rattle.bson.specs.Tree.{Tree, Pairs}
use Rattle.entry_model.specs.State.{Collection, empty_collection, find_collection, put_collection}
use Rattle.database_model.specs.Documents.{key_of, place}

-- what stands before a place is less by this comparison, and what stands from it on is greater
pub record IsGap {X : Type 0} (compare : X → Ordering) (xs : List X) (i : ℕ) : Type 0 where
  pub within : i ≤ length xs
  pub before : AllWithin (λ x. compare x ≡ orders.Less) xs 0 i
  pub after : AllWithin (λ x. compare x ≡ orders.Greater) xs i (length xs)

abbrev pub by_key : Tree → Pairs → Ordering
by_key id d = compare (key_of d) id

abbrev pub by_name : List ℕ → Collection → Ordering
by_name name c = slice_cmp nat_cmp c.name name

-- the document of this key stands there, or would stand there
abbrev pub IsPlace : Tree → List Pairs → Result ℕ ℕ → Type 0
IsPlace id ds (Ok i) = (i < length ds)
    × ((d : Pairs) → by_key id (slice_index_or ds i d) ≡ orders.Equal)
    × ((new : Pairs) → place id new ds ≡ None)
IsPlace id ds (Err i) =
    IsGap (by_key id) ds i × ((new : Pairs) → place id new ds ≡ Some (insert ds i new))

abbrev pub no_collection : Collection
no_collection = empty_collection [] 0

abbrev pub collection_at : List Collection → ℕ → Collection
collection_at cs i = slice_index_or cs i no_collection

-- the collection of this name stands there
pub record IsThere (name : List ℕ) (cs : List Collection) (i : ℕ) : Type 0 where
  pub within : i < length cs
  pub named : (collection_at cs i).name ≡ name
  pub found : find_collection cs name ≡ Some (collection_at cs i)
  pub replaced : (c : Collection) → c.name ≡ name → put_collection c cs ≡ slice_set cs i c

-- there is none of this name, and it would stand there
pub record IsMissing (name : List ℕ) (cs : List Collection) (i : ℕ) : Type 0 where
  pub gap : IsGap (by_name name) cs i
  pub found : find_collection cs name ≡ None
  pub added : (c : Collection) → c.name ≡ name → put_collection c cs ≡ insert cs i c

abbrev pub IsNamedAt : List ℕ → List Collection → Result ℕ ℕ → Type 0
IsNamedAt name cs (Ok i) = IsThere name cs i
IsNamedAt name cs (Err i) = IsMissing name cs i
