-- Each page of a changed tree is reached once, and old trees stay.
use Rattle.std.proofs.Common.{◌≡◌, ◌≢◌, ℕ, zero, suc, ◌<◌, ◌≤◌, List, [], ◌∷◌, length, drop, Bool, true, false, refl, sym, ap, ◌∙◌, subst, arith, inl, inr}
use Rattle.std.proofs.Common.{◌==◌}
use Rattle.std.proofs.lemmas.Bool.Decides.{nat_tests}
use Rattle.tree_model.specs.Keys.{Each, Entry, times}
use Rattle.tree_model.specs.Laws.{OldTreesStay, PagesStayOnce}
use Rattle.tree_model.specs.Reach.{HasMap}
use Rattle.tree_model.specs.Store.{Store, flag}
use Rattle.tree_model.specs.Tree.{Body, HasLinks, Shows, pages_of}
use Rattle.tree_model.proofs.ListLemmas.{each_append, times_append}
use Rattle.tree_model.proofs.StoreLemmas.{shows_kept}

pub old_trees_stay : OldTreesStay
old_trees_stay old new root pages entries g (inl none) = inl none
old_trees_stay old new root pages entries g (inr t) =
    inr (record {
      d = t.d;
      body = t.body;
      tree = record {
        at = g.kept root _ t.tree.at;
        shown = shows_kept old new g t.d t.body t.tree.shown;
        whole = t.tree.whole;
        sound = t.tree.sound;
        depth = t.tree.depth;
      };
      pages_are = t.pages_are;
      entries_are = t.entries_are;
    })

-- ---- what is reached is live

abbrev pub IsLive : Store → ℕ → Type 0
IsLive s n = s.live n ≡ true

links_live : (s : Store) (pages bytes : List ℕ) → HasLinks s pages bytes → Each (IsLive s) pages
links_live s [] bytes h = tt
links_live s (page ∷ pages) bytes h = (h.1.live, links_live s pages (drop 4076 bytes) h.2)

chain_live : (s : Store) (pages bytes : List ℕ) → (0 < length pages → HasLinks s pages bytes) → Each (IsLive s) pages
chain_live s [] bytes h = tt
chain_live s (page ∷ pages) bytes h = links_live s (page ∷ pages) bytes (h (omega arith))

shows_live : (s : Store) (d : ℕ) (body : Body d) → Shows s d body → Each (IsLive s) (pages_of d body)
shows_live s zero [] h = tt
shows_live s zero (x ∷ xs) h = each_append (IsLive s) x.links (pages_of zero xs) (chain_live s x.links x.value h.0) (shows_live s zero xs h.1)
shows_live s (suc d) [] h = tt
shows_live s (suc d) (w ∷ ws) h =
    each_append (IsLive s) (w.page ∷ pages_of d w.body) (pages_of (suc d) ws) (h.0.0.live, shows_live s d w.body h.0.1) (shows_live s (suc d) ws h.1)

pub map_live : (s : Store) (root : ℕ) (pages : List ℕ) (entries : List Entry) → HasMap s root pages entries → Each (IsLive s) pages
map_live s root pages entries (inl none) = subst (Each (IsLive s)) (sym none.1.0) tt
map_live s root pages entries (inr t) = subst (Each (IsLive s)) (sym t.pages_are) (t.tree.at.live, shows_live s t.d t.body t.tree.shown)

none_there : (s : Store) (n : ℕ) (pages : List ℕ) → Each (IsLive s) pages → s.live n ≡ false → times n pages ≡ 0
none_there s n [] h dead = refl
none_there s n (page ∷ pages) h dead =
    let other : n ≢ page = (λ same. let live : s.live n ≡ true = ap s.live same ∙ h.0 in cc) in
    let test : (n == page) ≡ false = grind (arith, nat_tests, other) in
    omega (arith, ap flag test, none_there s n pages h.1 dead)

pub pages_stay_once : PagesStayOnce
pages_stay_once old new root before after entries g map once turned n = go (old.live n) refl (new.live n) refl
  where
    less : times n old.retired ≤ times n new.retired
    less = omega (arith, ap (times n) g.retired_on.1, times_append n g.retired_on.0 old.retired)

    go : (was : Bool) → was ≡ old.live n → (is : Bool) → is ≡ new.live n → times n after ≤ 1
    go true was true is = omega (arith, turned n, g.made n, less, once n, ap flag was, ap flag is)
    go true was false is = omega (arith, turned n, g.made n, less, once n, ap flag was, ap flag is)
    go false was true is =
        omega (arith, turned n, g.made n, less, none_there old n before (map_live old root before entries map) (sym was), ap flag was, ap flag is)
    go false was false is =
        omega (arith, turned n, g.made n, less, none_there old n before (map_live old root before entries map) (sym was), ap flag was, ap flag is)
