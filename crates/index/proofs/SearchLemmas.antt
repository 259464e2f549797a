-- What a binary search among ascending keys tells.
use Rattle.std.proofs.Common.{◌≡◌, ℕ, ◌+◌, ◌<◌, ◌≤◌, true, false, List, [], ◌∷◌, length, get_or, Result, Ok, Err, sym, ap, ◌∙◌, arith, ◌⊎◌, inl, inr}
use Rattle.std.specs.List.{All, HoldsAt}
use Rattle.std.specs.Global.{Vec}
use Rattle.std.specs.List.Sorted.{IsBinarySearchResult, IsPartitionPoint, IsSearchInRange}
use Rattle.std.specs.declared.cmp.Ordering.{Ordering}
use Rattle.std.specs.declared.cmp.Ordering.TheVariants.{Less, Equal, Greater}
use Rattle.std.specs.Ordering.{is_eq, is_lt, ordering_reverse}
use Rattle.std.specs.Prelude.{is_ok}
use Rattle.std.specs.Cmp.Lexicographic.{nat_list_cmp_total}
use Rattle.std.proofs.lemmas.Bool.{cases_lt}
use Rattle.std.proofs.lemmas.List.Folds.{list_any_none, list_any_at}
use Rattle.std.proofs.lemmas.List.Sorted.{searchable_from_sorted}
use Rattle.std.proofs.lemmas.Map.Keys.{Less-from_sorted}
use Rattle.value_order.specs.Order.{bytes_cmp}
use Rattle.index.specs.Changes.{IsAscending, is_among}
use Rattle.index.specs.View.{texts_of}
use Rattle.index.proofs.SetLemmas.{order_of, among_texts, vectors_sorted}

flipped : (k l : List ℕ) (o : Ordering) → bytes_cmp k l ≡ o → bytes_cmp l k ≡ ordering_reverse o
flipped k l o e = nat_list_cmp_total.antisymm l k ∙ ap ordering_reverse e

-- none of them ties with the key
none_ties : (vs : List (Vec ℕ)) (key : List ℕ) (i : ℕ) → IsPartitionPoint (λ v. bytes_cmp v.items key ≡ Less) (λ v. bytes_cmp v.items key ≡ Greater) vs i
    → All (λ v. is_eq (bytes_cmp key v.items) ≡ false) vs
none_ties vs key i parts k d within = by (cases_lt k i)
  where
    by : (k < i) ⊎ (i ≤ k) → is_eq (bytes_cmp key (get_or vs k d).items) ≡ false
    by (inl before) = ap is_eq (flipped (get_or vs k d).items key Less (parts.0 k d (omega arith) before))
    by (inr from) = ap is_eq (flipped (get_or vs k d).items key Greater (parts.1 k d from within))

at_place : (v : Vec ℕ) (vs : List (Vec ℕ)) (key : List ℕ) (i : ℕ) → i < length (v ∷ vs) → HoldsAt (λ w. bytes_cmp w.items key ≡ Equal) (v ∷ vs) i
    → is_among (texts_of (v ∷ vs)) key ≡ true
at_place v vs key i within found =
    among_texts (v ∷ vs) key
    ∙ list_any_at (λ w. is_eq (bytes_cmp key w.items)) (v ∷ vs) i v within (ap is_eq (flipped (get_or (v ∷ vs) i v).items key Equal (found v)))

pub search_told : (vs : List (Vec ℕ)) (key : List ℕ) (r : Result ℕ ℕ) → IsAscending (texts_of vs) → IsSearchInRange r (length vs)
    → IsBinarySearchResult (λ v. bytes_cmp v.items key) vs r
    → is_ok r ≡ is_among (texts_of vs) key
search_told [] key (Ok i) ascend range found = absurd (omega (arith, range))
search_told (v ∷ vs) key (Ok i) ascend range found = sym (at_place v vs key i range found)
search_told vs key (Err i) ascend range found =
    let up = vectors_sorted vs ascend in
    let parts = found
    (searchable_from_sorted nat_list_cmp_total (λ (v : Vec ℕ). v.items) vs key
    (λ k d low high. ap is_lt
    (flipped (get_or vs k d).items (get_or vs (k + 1) d).items Less (Less-from_sorted order_of vs k (k + 1) d up (omega arith) high)))) in
    sym (among_texts vs key ∙ list_any_none (λ v. is_eq (bytes_cmp key v.items)) vs (none_ties vs key i parts))
