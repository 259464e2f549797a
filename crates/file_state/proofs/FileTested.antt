-- An image passes the test just where it stands for entries.
use Rattle.std.proofs.Common.{◌≡◌, ℕ, ◌<◌, List, [], ◌∷◌, Decides, refl, sym, ◌∙◌, subst, inl, inr}
use Rattle.std.specs.Prelude.{◌⊎◌, ◌==◌, ◌&&◌, Result, Ok, Err}
use Rattle.std.proofs.lemmas.Bool.Decides.{Decides-below_or, Decides-eqb, Decides-like, Decides-or}
use Rattle.page.specs.Format.{PageModel}
use Rattle.page.specs.declared.page_fault.PageFault.{PageFault}
use Rattle.tree_model.specs.Keys.{Entry}
use Rattle.tree_model.specs.Reach.{AreOnce, HasMap}
use Rattle.tree_model.specs.Tree.{Body, IsTree, entries_of, pages_of}
use Rattle.freelist.specs.FreeList.{Part}
use Rattle.roots.specs.Image.{HasList, HoldsMap, StandsFor, model_at, store_of}
use Rattle.roots.specs.Root.{root_of}
use Rattle.roots.specs.declared.opening.OpenFault.{OpenFault}
use Rattle.roots.specs.declared.root.Root.{Root}
use Rattle.file_state.specs.FileTests.{any_below, fits_list, has_height, holds_file, opens_file, parts_in, stands, tree_in}
use Rattle.file_state.specs.Laws.{Stands}
use Rattle.file_state.proofs.BodiesRead.{root_read}
use Rattle.file_state.proofs.ListTested.{list_read, list_tested, once_tested}
use Rattle.file_state.proofs.TestLemmas.{◌also◌}
use Rattle.file_state.proofs.TreeTested.{root_tested}

module _ (models : ℕ → Result PageModel PageFault) (root : Root) where
  -- a list fits these pages, each of which is reached once
  record FitsList (pages : List ℕ) : Type 0 where
    once : AreOnce pages
    parts : List Part
    has : HasList models root pages parts

  -- the root's tree has so many levels above its leaves, and a list fits
  record HasHeight (d : ℕ) : Type 0 where
    body : Body d
    tree : IsTree (store_of models) root.tree d body
    fits : FitsList (root.tree ∷ pages_of d body)

  fits_tested : (pages : List ℕ) → Decides (fits_list models root pages) (FitsList pages)
  fits_tested pages =
      Decides-like (fits_list models root pages) (λ h. record { once = h.0; parts = parts_in models root; has = h.1 })
      (λ h. (h.once, subst (HasList models root pages) (sym (list_read models root pages h.parts h.has)) h.has))
      (once_tested pages also list_tested models root pages (parts_in models root))

  height_tested : (d : ℕ) → Decides (has_height models root d) (HasHeight d)
  height_tested d =
      Decides-like (has_height models root d) (λ h. record { body = tree_in models root d; tree = h.0; fits = h.1 })
      (λ h. let same = sym (root_read (store_of models) root.tree d h.body h.tree) in
      (subst (IsTree (store_of models) root.tree d) same h.tree, subst (λ (b : Body d). FitsList (root.tree ∷ pages_of d b)) same h.fits))
      (root_tested (store_of models) root.tree d (tree_in models root d) also fits_tested (root.tree ∷ pages_of d (tree_in models root d)))

  -- pages and entries of a file
  record HoldsSome : Type 0 where
    pages : List ℕ
    entries : List Entry
    holds : HoldsMap models root pages entries

  abbrev Heights : Type 0
  Heights = ((root.tree ≡ 0) × FitsList []) ⊎ ((d : ℕ) × (d < 32) × HasHeight d)

  found : Heights → HoldsSome
  found (inl (none, fits)) =
      record { pages = []; entries = []; holds = record { map = inl (none, (refl, refl)); once = fits.once; listed = (fits.parts, fits.has) } }
  found (inr (d, low, h)) = record {
    pages = root.tree ∷ pages_of d h.body;
    entries = entries_of d h.body;
    holds = record {
      map = inr (record { d = d; body = h.body; tree = h.tree; pages_are = refl; entries_are = refl });
      once = h.fits.once;
      listed = (h.fits.parts, h.fits.has);
    };
  }

  heights : HoldsSome → Heights
  heights h = by h.holds.map (record { once = h.holds.once; parts = h.holds.listed.0; has = h.holds.listed.1 })
    where
      by : HasMap (store_of models) root.tree h.pages h.entries → FitsList h.pages → Heights
      by (inl (none, (are, _))) fits = inl (none, subst FitsList are fits)
      by (inr t) fits = inr (t.d, t.tree.depth, record { body = t.body; tree = t.tree; fits = subst FitsList t.pages_are fits })

  holds_tested : Decides (holds_file models root) HoldsSome
  holds_tested =
      Decides-like (holds_file models root) found heights
      (Decides-or (root.tree == 0 && fits_list models root []) (any_below (has_height models root) 32)
      (Decides-eqb root.tree 0 also fits_tested [])
      (Decides-below_or (has_height models root) HasHeight (any_below (has_height models root)) height_tested refl (λ _. refl) 32))

pub stands_tested : Stands
unfolding stands
stands_tested image = by (root_of (image 0) (image 1)) refl
  where
    by : (found : Result Root OpenFault) → root_of (image 0) (image 1) ≡ found
        → Decides (opens_file image found) ((entries : List Entry) × StandsFor image entries)
    by (Ok root) is =
        Decides-like (opens_file image (Ok root))
        (λ h. (h.entries, record { root = root; pages = h.pages; opens = is; holds = h.holds }))
        (λ h. let same : h.1.root ≡ root = (let both = sym h.1.opens ∙ is in cc) in
        subst (λ (r : Root). HoldsSome (model_at image r) r) same (record { pages = h.1.pages; entries = h.0; holds = h.1.holds }))
        (holds_tested (model_at image root) root)
    by (Err fault) is = (λ e. absurd cc, λ h. let both = sym h.1.opens ∙ is in absurd cc)
