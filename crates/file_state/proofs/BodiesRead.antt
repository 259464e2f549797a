-- What is read of a page that heads a tree.
use Rattle.std.proofs.Common.{◌≡◌, ℕ, zero, suc, ◌<◌, ◌≤◌, false, List, [], ◌∷◌, length, map, drop, refl, ◌∙◌, ap, arith}
use Rattle.std.proofs.Common.{length-drop}
use Rattle.std.specs.Prelude.{◌==◌, if◌then◌else◌}
use Rattle.std.proofs.lemmas.Bool.Decides.{nat_tests}
use Rattle.page.specs.Content.{Content}
use Rattle.tree_model.specs.Keys.{Each, Pair}
use Rattle.tree_model.specs.Store.{Store}
use Rattle.tree_model.specs.Tree.{Body, HasChain, HasLinks, IsTree, Shows, Subtree, content_of, item_of, place_of}
use Rattle.file_state.specs.TreeTests.{body_in, links_behind, links_from, links_in, pair_in}
use Rattle.file_state.proofs.EntriesRead.{value_read}

module _ (s : Store) where
  links_read : (p : ℕ) (ps value : List ℕ) (most : ℕ) → length value ≤ most → HasLinks s (p ∷ ps) value → links_from s.page most p ≡ p ∷ ps
  links_read p ps value zero few h = absurd (omega (arith, few, h.0))
  links_read p [] value (suc most) few h = ap (λ (c : Content). p ∷ links_behind c (links_from s.page most)) h.1.holds
  links_read p (q ∷ qs) value (suc most) few h =
      let other : (q == 0) ≡ false = let some = h.2.1.number in grind (arith, nat_tests, some) in
      let rest : links_from s.page most q ≡ q ∷ qs =
      links_read q qs (drop 4076 value) most (omega (arith, length-drop 4076 value, few, h.0)) h.2 in
      let all : (if q == 0 then [] else links_from s.page most q) ≡ q ∷ qs = rw other rest in
      ap (λ (c : Content). p ∷ links_behind c (links_from s.page most)) h.1.holds ∙ (λ i. p ∷ all i)

  place_links : (links value : List ℕ) → (0 < length links → HasLinks s links value) → links_in s.page (place_of links value) ≡ links
  place_links [] value h = refl
  place_links (p ∷ ps) value h = links_read p ps value (length value) (omega arith) (h (omega arith))

  pairs_read : (xs : List Pair) → Each (HasChain s) xs → map (pair_in s.page) (map item_of xs) ≡ xs
  pairs_read [] h = refl
  pairs_read (x ∷ xs) h =
      λ i. record { key = x.key; value = value_read s x.links x.value h.0 i; links = place_links x.links x.value h.0 i } ∷ pairs_read xs h.1 i

  module _ (d : ℕ) (one : (b : Body d) → Shows s d b → body_in s.page d (content_of d b) ≡ b) where
    fan_read : (ws : List (Subtree (Body d))) → Shows s (suc d) ws → body_in s.page (suc d) (content_of (suc d) ws) ≡ ws
    fan_read [] h = refl
    fan_read (w ∷ ws) h =
        let child = ap (body_in s.page d) h.0.0.holds ∙ one w.body h.0.1 in
        λ i. record { key = w.key; page = w.page; body = child i } ∷ fan_read ws h.1 i

  body_read : (d : ℕ) (b : Body d) → Shows s d b → body_in s.page d (content_of d b) ≡ b
  body_read zero b h = pairs_read b h
  body_read (suc d) b h = fan_read d (body_read d) b h

  pub root_read : (root d : ℕ) (b : Body d) → IsTree s root d b → body_in s.page d (s.page root) ≡ b
  root_read root d b tree = ap (body_in s.page d) tree.at.holds ∙ body_read d b tree.shown
