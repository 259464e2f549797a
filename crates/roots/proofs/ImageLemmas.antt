-- What a root reaches decides what an image stands for.
use Rattle.std.proofs.Common.{◌≡◌, ℕ, ◌*◌, ◌<◌, inl, inr, Bool, true, false, List, [], ◌∷◌, ◌++◌, refl, ◌∙◌, ap, arith}
use Rattle.std.specs.Prelude.{◌&&◌, nat_lt, if◌then◌else◌, is_ok, Result, Err}
use Rattle.page.specs.History.{Sector, reads}
use Rattle.page.specs.Crash.{IsDurable, Secures}
use Rattle.page.specs.Format.{PageModel, model_in}
use Rattle.page.specs.Page.{IsSectorOf, page_at}
use Rattle.std.proofs.lemmas.Bool.Decides.{nat_tests}
use Rattle.page.specs.declared.page_fault.PageFault.{PageFault}
use Rattle.page.specs.declared.page_fault.PageFault.TheVariants as faults
use Rattle.page.proofs.PageSteps.{bytes_from_same}
use Rattle.tree_model.specs.Keys.{Each, Entry}
use Rattle.tree_model.proofs.ReachLemmas.{Moves, map_moved}
use Rattle.freelist.specs.FreeList.{HoldsList, Part, pages_of}
use Rattle.freelist.proofs.WrittenLists.{reading_is_exact}
use Rattle.roots.specs.Root.{root_of}
use Rattle.roots.specs.Image.{model_at, content_in, store_of, HasList, HoldsMap, HoldsTree, OpensAs, StandsFor, IsOnPages, IsKept}
use Rattle.roots.specs.Image.{list_in, listed_model, reached_by}
use Rattle.roots.specs.declared.root.Root.{Root}

-- a page lies in its sectors alone,
pub model_same : (a b : ℕ → List ℕ) (root : Root) (page : ℕ) → ((k : ℕ) → IsSectorOf page k → b k ≡ a k) → model_at b root page ≡ model_at a root page
model_same a b root page same =
    ap (λ (bytes : List ℕ). if nat_lt 0 page && nat_lt page root.pages then model_in page root.generation bytes else Err faults.Number)
    (bytes_from_same a b (8 * page) 8 (λ k le lt. same k (le, lt)))

pub moves_by : (a b : ℕ → List ℕ) (root : Root) (pages : List ℕ) → ((k : ℕ) → IsOnPages pages k → b k ≡ a k)
    → Each (Moves (store_of (model_at a root)) (store_of (model_at b root))) pages
moves_by a b root [] same = tt
moves_by a b root (page ∷ pages) same =
    let here : model_at b root page ≡ model_at a root page = model_same a b root page (λ k is. same k (inl is)) in (
      (λ content at. record { number = at.number; live = ap is_ok here ∙ at.live; holds = ap content_in here ∙ at.holds }),
      moves_by a b root pages (λ k is. same k (inr is)),
    )

-- what is a file's is its tree's
pub only_tree : (models : ℕ → Result PageModel PageFault) (root : Root) (pages : List ℕ) (entries : List Entry) → HoldsMap models root pages entries
    → HoldsTree models root pages entries
only_tree models root pages entries holds = record { map = holds.map; once = holds.once }

pub on_front : (k : ℕ) (xs ys : List ℕ) → IsOnPages xs k → IsOnPages (xs ++ ys) k
on_front k [] ys extends = absurd extends
on_front k (x ∷ xs) ys (inl is) = inl is
on_front k (x ∷ xs) ys (inr extends) = inr (on_front k xs ys extends)

pub on_back : (k : ℕ) (xs ys : List ℕ) → IsOnPages ys k → IsOnPages (xs ++ ys) k
on_back k [] ys extends = extends
on_back k (x ∷ xs) ys extends = inr (on_back k xs ys extends)

parts_same : (a b : ℕ → List ℕ) (root : Root) (parts : List Part) → ((k : ℕ) → IsOnPages (pages_of parts) k → b k ≡ a k)
    → HoldsList (list_in (model_at a root)) parts → HoldsList (list_in (model_at b root)) parts
parts_same a b root [] same holds = tt
parts_same a b root (part ∷ rest) same holds = (
  ap listed_model (model_same a b root part.page (λ k is. same k (inl is))) ∙ holds.0,
  parts_same a b root rest (λ k extends. same k (inr extends)) holds.1,
)

-- a list lies in its own pages alone,
pub list_same : (a b : ℕ → List ℕ) (root : Root) (pages : List ℕ) (parts : List Part) → ((k : ℕ) → IsOnPages (reached_by pages parts) k → b k ≡ a k)
    → HasList (model_at a root) root pages parts → HasList (model_at b root) root pages parts
list_same a b root pages parts same has = record {
  list = record {
    begins = has.list.begins;
    holds = parts_same a b root parts (λ k extends. same k (on_back k pages (pages_of parts) extends)) has.list.holds;
    counted = has.list.counted;
    once = has.list.once;
  };
  all = has.all;
}

-- a root has one at most,
pub one_list : (models : ℕ → Result PageModel PageFault) (root : Root) (pages others : List ℕ) (parts rest : List Part) → HasList models root pages parts
    → HasList models root others rest → parts ≡ rest
one_list models root pages others parts rest one two =
    reading_is_exact (list_in models) root.pages root.free_list root.free_count root.free_count parts rest one.list two.list

-- and so does a tree with its list.
pub holds_same : (a b : ℕ → List ℕ) (root : Root) (pages : List ℕ) (parts : List Part) (entries : List Entry)
    → HasList (model_at a root) root pages parts → ((k : ℕ) → IsOnPages (reached_by pages parts) k → b k ≡ a k)
    → HoldsMap (model_at a root) root pages entries → HoldsMap (model_at b root) root pages entries
holds_same a b root pages parts entries list same holds = record {
  map = map_moved (store_of (model_at a root)) (store_of (model_at b root)) root.tree pages entries
      (moves_by a b root pages (λ k extends. same k (on_front k pages (pages_of parts) extends))) holds.map;
  once = holds.once;
  listed = (parts, list_same a b root pages parts same list);
}

pub opens_same : (a b : ℕ → List ℕ) (root : Root) → b 0 ≡ a 0 → b 1 ≡ a 1 → OpensAs a root → OpensAs b root
opens_same a b root even odd opens = (λ i. root_of (even i) (odd i)) ∙ opens

pub stands_by_kept : (a image : ℕ → List ℕ) (root : Root) (pages : List ℕ) (parts : List Part) (entries : List Entry) → OpensAs a root
    → HasList (model_at a root) root pages parts → HoldsMap (model_at a root) root pages entries
    → ((k : ℕ) → IsKept (reached_by pages parts) k → image k ≡ a k) → StandsFor image entries
stands_by_kept a image root pages parts entries opens list holds same = record {
  root = root;
  pages = pages;
  opens = opens_same a image root (same 0 (inl (omega arith))) (same 1 (inl (omega arith))) opens;
  holds = holds_same a image root pages parts entries list (λ k extends. same k (inr extends)) holds;
}

pub secures : (sectors : ℕ → Sector) (root : Root) (pages : List ℕ) (parts : List Part) (entries : List Entry) → OpensAs (reads sectors) root
    → HasList (model_at (reads sectors) root) root pages parts → HoldsMap (model_at (reads sectors) root) root pages entries
    → ((k : ℕ) → IsKept (reached_by pages parts) k → IsDurable (sectors k))
    → Secures sectors (IsKept (reached_by pages parts)) (λ image. StandsFor image entries)
secures sectors root pages parts entries opens list holds durable = record {
  durable = durable;
  decides = λ image same. stands_by_kept (reads sectors) image root pages parts entries opens list holds same;
}

-- a page that is there lies in the file
pub live_below : (image : ℕ → List ℕ) (root : Root) (n : ℕ) → is_ok (model_at image root n) ≡ true → n < root.pages
live_below image root n is = by_tests (nat_lt 0 n) (nat_lt n root.pages) refl is
  where
    by_tests : (some inside : Bool) → nat_lt n root.pages ≡ inside
        → is_ok (if some && inside then model_in n root.generation (page_at image n) else Err faults.Number) ≡ true → n < root.pages
    by_tests true true test is = grind (arith, nat_tests, test)
    by_tests true false test is = absurd cc
    by_tests false inside test is = absurd cc
