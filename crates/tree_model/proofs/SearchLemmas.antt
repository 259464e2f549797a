-- Keys of a page that lie between bounds.
use Rattle.std.proofs.Common.{◌≡◌, ℕ, zero, suc, ◌<◌, List, [], ◌∷◌, length, map, get_or, Option, Some, slice_get, ap, sym, subst, arith}
use Rattle.tree_model.specs.Keys.{IsBetween}
use Rattle.page.specs.Content.{inline, Item, Pivot, leaf, branch}
use Rattle.tree_model.specs.Search.{LieBetween}
use Rattle.tree_model.proofs.ListLemmas.{each_get, each_of_map}

pub get_map : {X Y : Type 0} (f : X → Y) (xs : List X) (i : ℕ) (x : X) → slice_get xs i ≡ Some x → slice_get (map f xs) i ≡ Some (f x)
get_map f [] i x e = cc
get_map f (y ∷ ys) zero x e = let same : y ≡ x = cc in ap (λ z. Some (f z)) same
get_map f (y ∷ ys) (suc i) x e = get_map f ys i x e

-- what stands at a place
pub got : {X Y : Type 0} (f : X → Y) (xs : List X) (i : ℕ) (y : Y) → slice_get (map f xs) i ≡ Some y → (d : X) → y ≡ f (get_or xs i d)
got f [] i y e d = cc
got f (x ∷ xs) zero y e d = cc
got f (x ∷ xs) (suc i) y e d = got f xs i y e d

pub got_itself : {X : Type 0} (xs : List X) (i : ℕ) (y : X) → slice_get xs i ≡ Some y → (d : X) → y ≡ get_or xs i d
got_itself [] i y e d = cc
got_itself (x ∷ xs) zero y e d = cc
got_itself (x ∷ xs) (suc i) y e d = got_itself xs i y e d

module _ (low : List ℕ) (high : Option (List ℕ)) (i : ℕ) (key : List ℕ) where
  pub in_leaf : (items : List Item) → ((d : Item) → key ≡ (get_or items i d).key) → i < length items → LieBetween low high (leaf items) → IsBetween low high key
  in_leaf items is lt h =
      let d : Item = record { key = []; place = inline [] } in
      subst (IsBetween low high) (sym (is d)) (each_get (λ x. IsBetween low high x.key) items i d lt (each_of_map (IsBetween low high) (λ x. x.key) items h))

pub in_branch : (low : List ℕ) (high : Option (List ℕ)) (i : ℕ) (key : List ℕ) (pivots : List Pivot) → ((d : Pivot) → key ≡ (get_or pivots i d).key) → 0 < i
    → i < length pivots → LieBetween low high (branch pivots)
    → IsBetween low high key
in_branch low high i key [] is pos lt h = absurd (omega arith)
in_branch low high zero key (a ∷ pivots) is pos lt h = absurd (omega arith)
in_branch low high (suc i) key (a ∷ pivots) is pos lt h =
    let d : Pivot = record { key = []; child = 0 } in
    subst (IsBetween low high) (sym (is d))
    (each_get (λ x. IsBetween low high x.key) pivots i d (omega arith) (each_of_map (IsBetween low high) (λ x. x.key) pivots h))
