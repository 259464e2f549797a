-- Where a document goes among others, as a walk over them finds it.
use Rattle.std.proofs.Common.{◌≡◌, ℕ, ◌+◌, ◌<◌, ◌≤◌, List, [], ◌∷◌, ◌++◌, length, take, drop, get_or, insert, Option, Some, None, refl, sym, ap, ◌∙◌, arith}
use Rattle.std.proofs.Common.{append_assoc}
use Rattle.std.specs.Prelude.{option_map}
use Rattle.std.specs.declared.cmp.Ordering.{Ordering}
use Rattle.std.specs.declared.cmp.Ordering.TheVariants as orders
use Rattle.std.proofs.lemmas.List.{take_more, take_all, drop_all}
use Rattle.bson.specs.Tree.{Pairs}
use Rattle.value_order.specs.Order.{compare}
use Rattle.entry_model.specs.State.{by_order}
use Rattle.database_model.specs.Documents.{key_of, place}
use Rattle.replies.proofs.Steps.{drop_step}

-- the documents behind those that were passed over
abbrev pub behind : List Pairs → Option (List Pairs) → Option (List Pairs)
behind front o = option_map (λ later. front ++ later) o

-- it goes where it goes among those from an index on
abbrev pub IsPlacedFrom : Pairs → List Pairs → ℕ → Type 0
IsPlacedFrom new ds i = place (key_of new) new ds ≡ behind (take i ds) (place (key_of new) new (drop i ds))

pub placed_from_none : (new : Pairs) (ds : List Pairs) → IsPlacedFrom new ds 0
placed_from_none new ds = at (place (key_of new) new ds)
  where
    at : (o : Option (List Pairs)) → o ≡ behind [] o
    at None = refl
    at (Some xs) = refl

module _ (new : Pairs) (ds : List Pairs) (i : ℕ) (d : Pairs) (within : i < length ds) (is : d ≡ get_or ds i d) (far : IsPlacedFrom new ds i) where
  abbrev rest : List Pairs
  rest = drop (i + 1) ds

  left : drop i ds ≡ d ∷ rest
  left = drop_step ds i d within is

  -- what becomes of it by the order of the two
  abbrev placed_by : Ordering → Option (List Pairs)
  placed_by r = behind (take i ds) (by_order r (Some (new ∷ d ∷ rest)) None (option_map (λ later. d ∷ later) (place (key_of new) new rest)))

  looked : (r : Ordering) → compare (key_of new) (key_of d) ≡ r → place (key_of new) new ds ≡ placed_by r
  looked r ordered = far ∙ ap (λ (xs : List Pairs). behind (take i ds) (place (key_of new) new xs)) left ∙ ap placed_by ordered

  pub goes_before : compare (key_of new) (key_of d) ≡ orders.Less → place (key_of new) new ds ≡ Some (insert ds i new)
  goes_before ordered = looked orders.Less ordered ∙ ap (λ (xs : List Pairs). Some (take i ds ++ new ∷ xs)) (sym left)

  pub goes_nowhere : compare (key_of new) (key_of d) ≡ orders.Equal → place (key_of new) new ds ≡ None
  goes_nowhere ordered = looked orders.Equal ordered

  pub goes_behind : compare (key_of new) (key_of d) ≡ orders.Greater → IsPlacedFrom new ds (i + 1)
  goes_behind ordered = looked orders.Greater ordered ∙ at (place (key_of new) new rest)
    where
      next : take (i + 1) ds ≡ take i ds ++ d ∷ []
      next = take_more ds i d within ∙ ap (λ (x : Pairs). take i ds ++ x ∷ []) (sym is)

      at : (o : Option (List Pairs)) → behind (take i ds) (option_map (λ later. d ∷ later) o) ≡ behind (take (i + 1) ds) o
      at None = refl
      at (Some xs) = ap (λ (ys : List Pairs). Some ys) (sym (append_assoc (take i ds) (d ∷ []) xs) ∙ ap (λ (ys : List Pairs). ys ++ xs) (sym next))

-- behind all others
pub goes_last : (new : Pairs) (ds : List Pairs) (i n : ℕ) → IsPlacedFrom new ds i → length ds ≤ i → n ≡ length ds
    → place (key_of new) new ds ≡ Some (insert ds n new)
goes_last new ds i n far whole is =
    let long : length ds ≤ n = omega (arith, is) in
    far ∙ ap (λ (xs : List Pairs). behind (take i ds) (place (key_of new) new xs)) (drop_all i ds whole)
    ∙ ap (λ (xs : List Pairs). Some (xs ++ new ∷ [])) (take_all i ds whole ∙ sym (take_all n ds long))
    ∙ ap (λ (xs : List Pairs). Some (take n ds ++ new ∷ xs)) (sym (drop_all n ds long))
