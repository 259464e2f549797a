-- Entries below a key, over which a fold passes.
use Rattle.std.proofs.Common.{◌≡◌, ◌⊎◌, inl, inr, ℕ, zero, suc, ◌≤◌, List, [], ◌∷◌, ◌++◌, ◌&&◌, not, true, false, map, take, drop, Option, Some, None}
use Rattle.std.proofs.Common.{refl, sym, ap, ◌∙◌, subst, arith, append_assoc}
use Rattle.std.proofs.lemmas.List.{take-append-drop}
use Rattle.std.specs.Prelude.{IfSome, MatchOption}
use Rattle.std.specs.Ordering.{is_lt}
use Rattle.page.specs.Content.{Item, Pivot}
use Rattle.tree_model.specs.Calls.{IsPart}
use Rattle.tree_model.specs.Keys.{Each, Entry, IsUnder, Pair, Rises, entry_of, is_within, keep_if, key_cmp, window}
use Rattle.tree_model.specs.Search.{IsChildPlace, IsPlace}
use Rattle.tree_model.specs.Store.{Store}
use Rattle.tree_model.specs.Tree.{Body, Subtree, entries_of, item_of, pair_keys, pivot_of}
use Rattle.tree_model.proofs.ListLemmas.{each_back, map_append}
use Rattle.btree.proofs.ScanLemmas.{before_under, entries_append, first_under, window_append}

-- the first ones are the first of more, and those behind them
take_longer : {X : Type 0} (xs : List X) (i at : ℕ) → i ≤ at → take at xs ≡ take i xs ++ drop i (take at xs)
take_longer xs zero at le = refl
take_longer xs (suc i) zero le = absurd (omega arith)
take_longer [] (suc i) (suc at) le = refl
take_longer (x ∷ xs) (suc i) (suc at) le = ap (λ zs. x ∷ zs) (take_longer xs i at (omega arith))

each_window : (P : Entry → Type 0) (from : List ℕ) (to : Option (List ℕ)) (xs : List Entry) → Each P xs → Each P (window from to xs)
each_window P from to [] h = tt
each_window P from to (x ∷ xs) h =
    elim (not (is_lt (key_cmp x.key from)) && is_within to x.key) as (λ b. Each P (keep_if b x (window from to xs)))
    [ true ↦ (h.0, each_window P from to xs h.1) | false ↦ each_window P from to xs h.1 ]

-- Between some first entries of a range and more of them lie such as are below the key.
pub record ArePassed (key from : List ℕ) (to : Option (List ℕ)) (all first further : List Entry) : Type 0 where
  pub more : List Entry
  pub under : Each (λ (x : Entry). IsUnder x.key key) more
  pub is : (all ++ window from to first) ++ more ≡ all ++ window from to further

module _ (key from : List ℕ) (to : Option (List ℕ)) (all : List Entry) where
  passed : (first rest further : List Entry) → further ≡ first ++ rest → Each (λ (x : Entry). IsUnder x.key key) further
      → ArePassed key from to all first further
  passed first rest further e h = record {
    more = window from to rest;
    under = each_window (λ (x : Entry). IsUnder x.key key) from to rest
        (each_back (λ (x : Entry). IsUnder x.key key) first rest (subst (Each (λ (x : Entry). IsUnder x.key key)) e h));
    is = append_assoc all (window from to first) (window from to rest)
        ∙ ap (λ zs. all ++ zs) (sym (window_append from to first rest) ∙ ap (window from to) (sym e));
  }

  pub cells_passed : (items : List Item) (pairs : List Pair) (i at : ℕ) → items ≡ map item_of pairs → Rises (pair_keys pairs) → i ≤ at
      → IsPlace items key at → ArePassed key from to all (map entry_of (take i pairs)) (map entry_of (take at pairs))
  cells_passed items pairs i at e rise le place =
      passed (map entry_of (take i pairs)) (map entry_of (drop i (take at pairs))) (map entry_of (take at pairs))
      (ap (map entry_of) (take_longer pairs i at le) ∙ map_append entry_of (take i pairs) (drop i (take at pairs)))
      (first_under key to items pairs at e rise place)

  pub children_passed : (s : Store) (page level d : ℕ) (low : List ℕ) (high : Option (List ℕ)) (subtrees : List (Subtree (Body d))) (pivots : List Pivot)
      (e : pivots ≡ map pivot_of subtrees) (part : IsPart s page level (suc d) low high subtrees) (i at : ℕ) → i ≤ at → IsChildPlace pivots key at
      → ArePassed key from to all (entries_of (suc d) (take i subtrees)) (entries_of (suc d) (take at subtrees))
  children_passed s page level d low high subtrees pivots e part i at le place =
      passed (entries_of (suc d) (take i subtrees)) (entries_of (suc d) (drop i (take at subtrees))) (entries_of (suc d) (take at subtrees))
      (ap (entries_of (suc d)) (take_longer subtrees i at le) ∙ entries_append d (take i subtrees) (drop i (take at subtrees)))
      (before_under s page level d low high subtrees pivots e part key at place)

-- what comes behind the first children
pub children_rest : (from : List ℕ) (to : Option (List ℕ)) (all : List Entry) (d : ℕ) (subtrees : List (Subtree (Body d))) (i : ℕ)
    → (all ++ window from to (entries_of (suc d) (take i subtrees))) ++ window from to (entries_of (suc d) (drop i subtrees))
    ≡ all ++ window from to (entries_of (suc d) subtrees)
children_rest from to all d subtrees i =
    append_assoc all (window from to (entries_of (suc d) (take i subtrees))) (window from to (entries_of (suc d) (drop i subtrees)))
    ∙ ap (λ zs. all ++ zs) (sym (window_append from to (entries_of (suc d) (take i subtrees)) (entries_of (suc d) (drop i subtrees)))
    ∙ ap (window from to) (sym (entries_append d (take i subtrees) (drop i subtrees)) ∙ ap (entries_of (suc d)) (take-append-drop i subtrees)))

-- A fold is the same behind what it passes over.
module _ {R F : Type 0} (bytes : R → List ℕ) (makes : F → List Entry → F → Type 0) (start now : F) (from : List ℕ) (to : Option (List ℕ)) (all : List Entry)
    (first : ℕ → List Entry) (i at : ℕ) (Place : List ℕ → Type 0)
    (passes : (key : List ℕ) → Place key → ArePassed key from to all (first i) (first at)) where
  pub passed_over : (o : Option R)
      → IfSome o (λ key. (start : F) (all more : List Entry) → Each (λ (x : Entry). IsUnder x.key (bytes key)) more → makes start all now
      → makes start (all ++ more) now)
      → MatchOption o (at ≡ i) (λ key. (at ≡ i) ⊎ Place (bytes key)) → makes start (all ++ window from to (first i)) now
      → makes start (all ++ window from to (first at)) now
  passed_over None law same h = subst (λ n. makes start (all ++ window from to (first n)) now) (sym same) h
  passed_over (Some key) law (inl same) h = subst (λ n. makes start (all ++ window from to (first n)) now) (sym same) h
  passed_over (Some key) law (inr place) h =
      let p = passes (bytes key) place in subst (λ es. makes start es now) p.is (law start (all ++ window from to (first i)) p.more p.under h)
