-- Each page that a tree reaches is one that a tree may have.
use Rattle.std.proofs.Common.{◌≡◌, ℕ, zero, suc, ◌<◌, Bool, true, false, List, [], ◌∷◌, ◌++◌, length, take, drop, refl, sym, ◌∙◌, ap, subst, arith, inl, inr}
use Rattle.std.specs.Prelude.{◌==◌, ◌||◌}
use Rattle.std.proofs.lemmas.Bool.Decides.{nat_tests}
use Rattle.std.proofs.lemmas.List.{length-drop, length-take}
use Rattle.page.specs.Content.{is_of_tree}
use Rattle.tree_model.specs.Keys.{Each, Entry, Pair}
use Rattle.tree_model.specs.Reach.{HasMap}
use Rattle.tree_model.specs.Store.{IsAt, Store}
use Rattle.tree_model.specs.Tree.{Body, HasLinks, Shows, content_of, pages_of}

-- of this store
abbrev pub IsOfTree : Store → ℕ → Type 0
IsOfTree s n = is_of_tree (s.page n) ≡ true

each_join : (P : ℕ → Type 0) (xs ys : List ℕ) → Each P xs → Each P ys → Each P (xs ++ ys)
each_join P [] ys front back = back
each_join P (x ∷ xs) ys front back = (front.0, each_join P xs ys front.1 back)

body_page : (s : Store) (d : ℕ) (body : Body d) (n : ℕ) → IsAt s n (content_of d body) → IsOfTree s n
body_page s zero body n at = ap is_of_tree at.holds
body_page s (suc d) body n at = ap is_of_tree at.holds

link_page : (s : Store) (page : ℕ) (pages bytes : List ℕ) → HasLinks s (page ∷ pages) bytes → IsOfTree s page
link_page s page [] bytes has = ap is_of_tree has.1.holds
link_page s page (q ∷ qs) bytes has =
    let long : length (take 4076 bytes) ≡ 4076 = omega (arith, has.2.0, length-drop 4076 bytes, length-take 4076 bytes) in
    let test : (length (take 4076 bytes) == 4076) ≡ true = grind (arith, nat_tests, long) in
    ap is_of_tree has.1.holds ∙ last_true (q == 0) (length (take 4076 bytes) == 4076) test
  where
    last_true : (a b : Bool) → b ≡ true → (a || b) ≡ true
    last_true true b is = refl
    last_true false b is = is

link_pages : (s : Store) (pages bytes : List ℕ) → HasLinks s pages bytes → Each (IsOfTree s) pages
link_pages s [] bytes has = tt
link_pages s (page ∷ pages) bytes has = (link_page s page pages bytes has, link_pages s pages (drop 4076 bytes) has.2)

value_pages : (s : Store) (x : Pair) → (0 < length x.links → HasLinks s x.links x.value) → Each (IsOfTree s) x.links
value_pages s x has = by_links x.links has
  where
    by_links : (links : List ℕ) → (0 < length links → HasLinks s links x.value) → Each (IsOfTree s) links
    by_links [] has = tt
    by_links (page ∷ pages) has = link_pages s (page ∷ pages) x.value (has (omega arith))

body_pages : (s : Store) (d : ℕ) (body : Body d) → Shows s d body → Each (IsOfTree s) (pages_of d body)
body_pages s zero [] shown = tt
body_pages s zero (x ∷ xs) shown = each_join (IsOfTree s) x.links (pages_of zero xs) (value_pages s x shown.0) (body_pages s zero xs shown.1)
body_pages s (suc d) [] shown = tt
body_pages s (suc d) (w ∷ ws) shown = (
  body_page s d w.body w.page shown.0.0,
  each_join (IsOfTree s) (pages_of d w.body) (pages_of (suc d) ws) (body_pages s d w.body shown.0.1) (body_pages s (suc d) ws shown.1),
)

pub map_pages : (s : Store) (root : ℕ) (pages : List ℕ) (entries : List Entry) → HasMap s root pages entries → Each (IsOfTree s) pages
map_pages s root pages entries (inl (zero_is, (none, empty))) = subst (Each (IsOfTree s)) (sym none) tt
map_pages s root pages entries (inr has) =
    subst (Each (IsOfTree s)) (sym has.pages_are) (body_page s has.d has.body root has.tree.at, body_pages s has.d has.body has.tree.shown)
