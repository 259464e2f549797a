-- A page heads one tree at most.
use Rattle.std.proofs.Common.{◌≡◌, ℕ, zero, suc, ◌<◌, List, [], ◌∷◌, ◌++◌, length, map, take, drop, inl, inr, refl, sym, ◌∙◌, ap, subst, arith}
use Rattle.std.specs.Prelude.{Result, Ok}
use Rattle.std.proofs.lemmas.List.{take-append-drop}
use Rattle.page.specs.Content.{Content, Item, Pivot, chain}
use Rattle.tree_model.specs.Keys.{Each, Entry, Pair, entry_of}
use Rattle.tree_model.specs.Store.{Store, IsAt}
use Rattle.tree_model.specs.Tree.{Body, HasChain, HasLinks, Shows, Subtree, pivot_of, content_of, entries_of, item_of, next_of, pairs_of, place_of, pages_of}
use Rattle.tree_model.proofs.ListLemmas.{map_append}
use Rattle.tree_model.specs.Reach.{HasMap}
use Rattle.roots.specs.declared.opening.OpenFault.{OpenFault}
use Rattle.roots.specs.declared.root.Root.{Root}
use Rattle.roots.specs.Image.{HoldsMap, StandsFor, model_at, store_of}

chain_next : (next other : ℕ) (bytes others : List ℕ) → chain next bytes ≡ chain other others → next ≡ other
chain_next next other bytes others e = cc

chain_part : (next other : ℕ) (bytes others : List ℕ) → chain next bytes ≡ chain other others → bytes ≡ others
chain_part next other bytes others e = cc

record Same (links links' value value' : List ℕ) : Type 0 where
  pub links_are : links ≡ links'
  pub value_is : value ≡ value'

module _ (s : Store) where
  no_zero : (content : Content) → IsAt s 0 content → ⊥
  no_zero content at = omega (arith, at.number)

  one_chain : (links links' value value' : List ℕ) → next_of links ≡ next_of links' → HasLinks s links value → HasLinks s links' value'
      → Same links links' value value'
  one_chain [] [] value value' e h g = record { links_are = refl; value_is = h ∙ sym g }
  one_chain [] (q ∷ qs) value value' e h g = absurd (no_zero _ (subst (λ (n : ℕ). IsAt s n (chain (next_of qs) (take 4076 value'))) (sym e) g.1))
  one_chain (p ∷ ps) [] value value' e h g = absurd (no_zero _ (subst (λ (n : ℕ). IsAt s n (chain (next_of ps) (take 4076 value))) e h.1))
  one_chain (p ∷ ps) (q ∷ qs) value value' e h g =
      let same : chain (next_of ps) (take 4076 value) ≡ chain (next_of qs) (take 4076 value') = sym h.1.holds ∙ ap s.page e ∙ g.1.holds in
      let rest = one_chain ps qs (drop 4076 value) (drop 4076 value')
      (chain_next (next_of ps) (next_of qs) (take 4076 value) (take 4076 value') same) h.2 g.2 in
      let front : take 4076 value ≡ take 4076 value' = chain_part (next_of ps) (next_of qs) (take 4076 value) (take 4076 value') same in
      record {
        links_are = (λ i. e i ∷ rest.links_are i);
        value_is = sym (take-append-drop 4076 value) ∙ (λ i. front i ++ rest.value_is i) ∙ take-append-drop 4076 value';
      }

  one_value : (links links' value value' : List ℕ) → place_of links value ≡ place_of links' value' → (0 < length links → HasLinks s links value)
      → (0 < length links' → HasLinks s links' value') → Same links links' value value'
  one_value [] [] value value' e h g = record { links_are = refl; value_is = cc }
  one_value [] (q ∷ qs) value value' e h g = absurd cc
  one_value (p ∷ ps) [] value value' e h g = absurd cc
  one_value (p ∷ ps) (q ∷ qs) value value' e h g =
      let first : p ≡ q = cc in
      one_chain (p ∷ ps) (q ∷ qs) value value' first (h (omega arith)) (g (omega arith))

  pub record SameMap (entries entries' : List Entry) (pages pages' : List ℕ) : Type 0 where
    pub entries_are : entries ≡ entries'
    pub pages_are : pages ≡ pages'

  one_leaf : (xs ys : List Pair) → map item_of xs ≡ map item_of ys → Each (HasChain s) xs → Each (HasChain s) ys
      → SameMap (entries_of zero xs) (entries_of zero ys) (pages_of zero xs) (pages_of zero ys)
  one_leaf [] [] e h g = record { entries_are = refl; pages_are = refl }
  one_leaf [] (y ∷ ys) e h g = absurd cc
  one_leaf (x ∷ xs) [] e h g = absurd cc
  one_leaf (x ∷ xs) (y ∷ ys) e h g =
      let item : item_of x ≡ item_of y = cc in
      let items : map item_of xs ≡ map item_of ys = cc in
      let same = one_value x.links y.links x.value y.value (ap (λ (i : Item). i.place) item) h.0 g.0 in
      let rest = one_leaf xs ys items h.1 g.1 in
      let key : x.key ≡ y.key = ap (λ (i : Item). i.key) item in
      record {
        entries_are = (λ i. record { key = key i; value = same.value_is i } ∷ rest.entries_are i);
        pages_are = (λ i. same.links_are i ++ rest.pages_are i);
      }

  module _ (d d' : ℕ) (one : (b : Body d) (c : Body d') → content_of d b ≡ content_of d' c → Shows s d b → Shows s d' c
      → SameMap (entries_of d b) (entries_of d' c) (pages_of d b) (pages_of d' c)) where
    one_fan : (ws : List (Subtree (Body d))) (vs : List (Subtree (Body d'))) → map pivot_of ws ≡ map pivot_of vs → Shows s (suc d) ws → Shows s (suc d') vs
        → SameMap (entries_of (suc d) ws) (entries_of (suc d') vs) (pages_of (suc d) ws) (pages_of (suc d') vs)
    one_fan [] [] e h g = record { entries_are = refl; pages_are = refl }
    one_fan [] (v ∷ vs) e h g = absurd cc
    one_fan (w ∷ ws) [] e h g = absurd cc
    one_fan (w ∷ ws) (v ∷ vs) e h g =
        let pivot : pivot_of w ≡ pivot_of v = cc in
        let pivots : map pivot_of ws ≡ map pivot_of vs = cc in
        let page : w.page ≡ v.page = ap (λ (a : Pivot). a.child) pivot in
        let child = one w.body v.body (sym h.0.0.holds ∙ ap s.page page ∙ g.0.0.holds) h.0.1 g.0.1 in
        let rest = one_fan ws vs pivots h.1 g.1 in
        record {
          entries_are =
              map_append entry_of (pairs_of d w.body) (pairs_of (suc d) ws) ∙ (λ i. child.entries_are i ++ rest.entries_are i)
              ∙ sym (map_append entry_of (pairs_of d' v.body) (pairs_of (suc d') vs));
          pages_are = (λ i. page i ∷ (child.pages_are i ++ rest.pages_are i));
        }

  one_body : (d d' : ℕ) (b : Body d) (c : Body d') → content_of d b ≡ content_of d' c → Shows s d b → Shows s d' c
      → SameMap (entries_of d b) (entries_of d' c) (pages_of d b) (pages_of d' c)
  one_body zero zero b c e h g = one_leaf b c (let items : map item_of b ≡ map item_of c = cc in items) h g
  one_body zero (suc d') b c e h g = absurd cc
  one_body (suc d) zero b c e h g = absurd cc
  one_body (suc d) (suc d') b c e h g = one_fan d d' (one_body d d') b c (let pivots : map pivot_of b ≡ map pivot_of c = cc in pivots) h g

  pub one_map : (root : ℕ) (pages pages' : List ℕ) (entries entries' : List Entry) → HasMap s root pages entries → HasMap s root pages' entries'
      → SameMap entries entries' pages pages'
  one_map root pages pages' entries entries' (inl (_, (p, e))) (inl (_, (q, f))) = record { entries_are = e ∙ sym f; pages_are = p ∙ sym q }
  one_map root pages pages' entries entries' (inl (zero_is, _)) (inr has) = absurd (omega (arith, zero_is, has.tree.at.number))
  one_map root pages pages' entries entries' (inr has) (inl (zero_is, _)) = absurd (omega (arith, zero_is, has.tree.at.number))
  one_map root pages pages' entries entries' (inr one) (inr two) =
      let same = one_body one.d two.d one.body two.body (sym one.tree.at.holds ∙ two.tree.at.holds) one.tree.shown two.tree.shown in
      record {
        entries_are = one.entries_are ∙ same.entries_are ∙ sym two.entries_are;
        pages_are = one.pages_are ∙ (λ i. root ∷ same.pages_are i) ∙ sym two.pages_are;
      }

root_alone : (a b : Root) (found : Result Root OpenFault) → found ≡ Ok a → found ≡ Ok b → a ≡ b
root_alone a b found one two = grind (arith, one, two)

-- An image stands for one list of entries at most.
pub one_state : (image : ℕ → List ℕ) (a b : List Entry) → StandsFor image a → StandsFor image b → a ≡ b
one_state image a b one two =
    let root : two.root ≡ one.root = root_alone two.root one.root _ two.opens one.opens in
    let holds : HoldsMap (model_at image one.root) one.root two.pages b = subst (λ (r : Root). HoldsMap (model_at image r) r two.pages b) root two.holds in
    (one_map (store_of (model_at image one.root)) one.root.tree one.pages two.pages a b one.holds.map holds.map).entries_are
