-- What is read of an image that stands for entries.
use Rattle.std.proofs.Common.{◌≡◌, ℕ, zero, suc, ◌<◌, ◌≤◌, false, List, [], ◌∷◌, ◌++◌, length, map, take, drop, inl, inr, refl, sym, ◌∙◌, ap, arith}
use Rattle.std.proofs.Common.{length-drop}
use Rattle.std.specs.Prelude.{◌==◌, if◌then◌else◌}
use Rattle.std.specs.List.{flat_map}
use Rattle.std.proofs.lemmas.Bool.Decides.{nat_tests}
use Rattle.std.proofs.lemmas.List.{take-append-drop}
use Rattle.page.specs.Content.{Content}
use Rattle.tree_model.specs.Keys.{Each, Entry, Pair, entry_of}
use Rattle.tree_model.specs.Reach.{HasMap}
use Rattle.tree_model.specs.Store.{Store}
use Rattle.tree_model.specs.Tree.{Body, HasChain, HasLinks, Shows, Subtree, pivot_of, content_of, entries_of, item_of, pairs_of, place_of}
use Rattle.tree_model.proofs.ListLemmas.{map_append}
use Rattle.roots.specs.Image.{model_at, store_of}
use Rattle.file_state.specs.Entries.{chain_part, chain_from, value_in, entry_in, entries_below, tree_entries, entries_in}
use Rattle.file_state.specs.Laws.{ReadsEntries}

module _ (s : Store) where
  -- ---- values

  chain_read : (p : ℕ) (ps value : List ℕ) (most : ℕ) → length value ≤ most → HasLinks s (p ∷ ps) value → chain_from s.page most p ≡ value
  chain_read p ps value zero few h = absurd (omega (arith, few, h.0))
  chain_read p [] value (suc most) few h =
      ap (λ (c : Content). chain_part c (chain_from s.page most)) h.1.holds ∙ (λ i. take 4076 value ++ sym h.2 i) ∙ take-append-drop 4076 value
  chain_read p (q ∷ qs) value (suc most) few h =
      let other : (q == 0) ≡ false = let some = h.2.1.number in grind (arith, nat_tests, some) in
      let rest : chain_from s.page most q ≡ drop 4076 value =
      chain_read q qs (drop 4076 value) most (omega (arith, length-drop 4076 value, few, h.0)) h.2 in
      let all : (if q == 0 then [] else chain_from s.page most q) ≡ drop 4076 value = rw other rest in
      ap (λ (c : Content). chain_part c (chain_from s.page most)) h.1.holds ∙ (λ i. take 4076 value ++ all i) ∙ take-append-drop 4076 value

  pub value_read : (links value : List ℕ) → (0 < length links → HasLinks s links value) → value_in s.page (place_of links value) ≡ value
  value_read [] value h = refl
  value_read (p ∷ ps) value h = chain_read p ps value (length value) (omega arith) (h (omega arith))

  -- ---- pages

  leaf_read : (xs : List Pair) → Each (HasChain s) xs → map (entry_in s.page) (map item_of xs) ≡ map entry_of xs
  leaf_read [] h = refl
  leaf_read (x ∷ xs) h = λ i. record { key = x.key; value = value_read x.links x.value h.0 i } ∷ leaf_read xs h.1 i

  module _ (d levels : ℕ) (one : (b : Body d) → Shows s d b → entries_below s.page levels (content_of d b) ≡ entries_of d b) where
    fan_read : (ws : List (Subtree (Body d))) → Shows s (suc d) ws
        → flat_map (λ pivot. entries_below s.page levels (s.page pivot.child)) (map pivot_of ws) ≡ entries_of (suc d) ws
    fan_read [] h = refl
    fan_read (w ∷ ws) h =
        let child = ap (entries_below s.page levels) h.0.0.holds ∙ one w.body h.0.1 in
        (λ i. child i ++ fan_read ws h.1 i) ∙ sym (map_append entry_of (pairs_of d w.body) (pairs_of (suc d) ws))

  body_read : (d levels : ℕ) (b : Body d) → d ≤ levels → Shows s d b → entries_below s.page levels (content_of d b) ≡ entries_of d b
  body_read zero levels b low h = leaf_read b h
  body_read (suc d) zero b low h = absurd (omega (arith, low))
  body_read (suc d) (suc levels) b low h = fan_read d levels (λ c g. body_read d levels c (omega (arith, low)) g) b h

  map_read : (root : ℕ) (pages : List ℕ) (entries : List Entry) → HasMap s root pages entries
      → entries_below s.page 32 (s.page 0) ≡ []
      → entries_below s.page 32 (s.page root) ≡ entries
  map_read root pages entries (inl (zero_is, (_, none))) empty = ap (λ (n : ℕ). entries_below s.page 32 (s.page n)) zero_is ∙ empty ∙ sym none
  map_read root pages entries (inr has) empty =
      ap (entries_below s.page 32) has.tree.at.holds ∙ body_read has.d 32 has.body (omega (arith, has.tree.depth)) has.tree.shown ∙ sym has.entries_are

pub reads_entries : ReadsEntries
unfolding entries_in
reads_entries image entries h =
    ap (tree_entries image) h.opens ∙ map_read (store_of (model_at image h.root)) h.root.tree h.pages entries h.holds.map refl
