-- A tree lies in the pages that it reaches alone: a store that has these has the tree.
use Rattle.std.proofs.Common.{ℕ, zero, suc, List, [], ◌∷◌, drop, inl, inr}
use Rattle.page.specs.Content.{Content}
use Rattle.tree_model.specs.Keys.{Each, Entry}
use Rattle.tree_model.specs.Store.{Store, IsAt}
use Rattle.tree_model.specs.Tree.{Body, HasLinks, IsTree, Shows, pages_of}
use Rattle.tree_model.specs.Reach.{HasMap}
use Rattle.tree_model.proofs.ListLemmas.{each_front, each_back}
use Rattle.std.proofs.Common.{subst}

-- what the one store has in this page, the other has too
abbrev pub Moves : Store → Store → ℕ → Type 0
Moves s t n = (content : Content) → IsAt s n content → IsAt t n content

pub links_moved : (s t : Store) (pages bytes : List ℕ) → Each (Moves s t) pages → HasLinks s pages bytes → HasLinks t pages bytes
links_moved s t [] bytes moves h = h
links_moved s t (page ∷ pages) bytes moves h = (h.0, moves.0 _ h.1, links_moved s t pages (drop 4076 bytes) moves.1 h.2)

pub shows_moved : (s t : Store) (d : ℕ) (body : Body d) → Each (Moves s t) (pages_of d body) → Shows s d body → Shows t d body
shows_moved s t zero [] moves h = tt
shows_moved s t zero (x ∷ xs) moves h = (
  (λ long. links_moved s t x.links x.value (each_front (Moves s t) x.links (pages_of zero xs) moves) (h.0 long)),
  shows_moved s t zero xs (each_back (Moves s t) x.links (pages_of zero xs) moves) h.1,
)
shows_moved s t (suc d) [] moves h = tt
shows_moved s t (suc d) (w ∷ ws) moves h = (
  (moves.0 _ h.0.0, shows_moved s t d w.body (each_front (Moves s t) (pages_of d w.body) (pages_of (suc d) ws) moves.1) h.0.1),
  shows_moved s t (suc d) ws (each_back (Moves s t) (pages_of d w.body) (pages_of (suc d) ws) moves.1) h.1,
)

pub tree_moved : (s t : Store) (root d : ℕ) (body : Body d) → Each (Moves s t) (root ∷ pages_of d body) → IsTree s root d body → IsTree t root d body
tree_moved s t root d body moves h = record {
  at = moves.0 _ h.at;
  shown = shows_moved s t d body moves.1 h.shown;
  whole = h.whole;
  sound = h.sound;
  depth = h.depth;
}

pub map_moved : (s t : Store) (root : ℕ) (pages : List ℕ) (entries : List Entry) → Each (Moves s t) pages → HasMap s root pages entries
    → HasMap t root pages entries
map_moved s t root pages entries moves (inl none) = inl none
map_moved s t root pages entries moves (inr has) = inr (record {
  d = has.d;
  body = has.body;
  tree = tree_moved s t root has.d has.body (subst (Each (Moves s t)) has.pages_are moves) has.tree;
  pages_are = has.pages_are;
  entries_are = has.entries_are;
})
