-- Where a caller has the premises of a commit from: pages that stay are read under the next root as before, and pages that were made are there.
use Rattle.std.proofs.Common.{◌≡◌, ◌≢◌, ℕ, ◌<◌, ◌≤◌, Bool, true, false, List, [], ◌∷◌, ◌++◌, drop, refl, ◌∙◌, ap, subst, arith}
use Rattle.std.specs.Prelude.{◌&&◌, ◌||◌, ◌==◌, not, nat_lt, if◌then◌else◌, slice_index, is_ok, Some, Result, Ok, Err}
use Rattle.std.specs.List.{AllByRecursion}
use Rattle.std.proofs.lemmas.Bool.Decides.{nat_tests}
use Rattle.byteorder.specs.Endian.{little_number}
use Rattle.outcome.specs.Outcome.{◌>>=◌, unless}
use Rattle.page.specs.Content.{Content}
use Rattle.page.specs.Format.{PageModel, content_in, generation_in, model_in}
use Rattle.page.specs.Page.{page_at}
use Rattle.page.specs.declared.page_fault.PageFault.{PageFault}
use Rattle.page.specs.declared.page_fault.PageFault.TheVariants as faults
use Rattle.page.specs.History.{History, now, reads}
use Rattle.tree_model.specs.Keys.{Each, Entry}
use Rattle.tree_model.specs.Store.{IsAt}
use Rattle.tree_model.proofs.ReachLemmas.{Moves, map_moved}
use Rattle.freelist.specs.FreeList.{AreOnceBelow, HoldsList, IsPartition, ListContent, Part, named_by, pages_of}
use Rattle.roots.specs.declared.root.Root.{Root}
use Rattle.roots.specs.Image.{HasList, list_in, listed_model, model_at, store_of, content_in as content_of}
use Rattle.roots.specs.Store.{Keeps}
use Rattle.roots.specs.Turn.{IsTurn, LieBehind, made_or, next_root}
use Rattle.roots.proofs.OpeningRules.{known}
use Rattle.roots.proofs.WalkLemmas.{IsFound, found_at}

-- ---- a page under a later root

tested : (k p q r r' : Bool) (rest : Result ℕ PageFault) (x : ℕ) → (r ≡ false → r' ≡ false)
    → unless k faults.Kind (unless (p || q || r) faults.Number rest) ≡ Ok x
    → unless k faults.Kind (unless (p || q || r') faults.Number rest) ≡ Ok x
tested true p q r r' rest x weaker is = absurd cc
tested false true q r r' rest x weaker is = absurd cc
tested false false true r r' rest x weaker is = absurd cc
tested false false false true r' rest x weaker is = absurd cc
tested false false false false r' rest x weaker is = ap (λ (b : Bool). unless b faults.Number rest) (weaker refl) ∙ is

generation_later : (page old new : ℕ) (bytes : List ℕ) (x : ℕ) → old ≤ new → generation_in page old bytes ≡ Ok x → generation_in page new bytes ≡ Ok x
generation_later page old new bytes x le is =
    let born = little_number 8 (drop 8 bytes) in
    tested (slice_index bytes 0 == 0 || nat_lt 4 (slice_index bytes 0) || not (slice_index bytes 1 == 0)) (not (little_number 4 (drop 4 bytes) == page))
    (born == 0) (nat_lt old born) (nat_lt new born) (Ok born) x
    (λ test. grind (arith, nat_tests, test, le)) is

abbrev with_content : ℕ → List ℕ → Result ℕ PageFault → Result PageModel PageFault
with_content number bytes found = do
  born ← found
  inside ← content_in (slice_index bytes 0) (little_number 2 (drop 2 bytes)) (drop 16 bytes)
  Ok (record { page = number; generation = born; content = inside })

model_later : (page old new : ℕ) (bytes : List ℕ) (model : PageModel) → old ≤ new → model_in page old bytes ≡ Ok model → model_in page new bytes ≡ Ok model
model_later page old new bytes model le is = go (generation_in page old bytes) refl is
  where
    go : (found : Result ℕ PageFault) → generation_in page old bytes ≡ found → with_content page bytes found ≡ Ok model → model_in page new bytes ≡ Ok model
    go (Ok born) at there = ap (with_content page bytes) (generation_later page old new bytes born le at) ∙ there
    go (Err e) at there = absurd cc

pub still_read : (image : ℕ → List ℕ) (old new : Root) (n : ℕ) (model : PageModel) → old.generation ≤ new.generation → old.pages ≤ new.pages
    → model_at image old n ≡ Ok model → model_at image new n ≡ Ok model
still_read image old new n model le more is = by_tests (nat_lt 0 n) (nat_lt n old.pages) refl is
  where
    by_tests : (some inside : Bool) → nat_lt n old.pages ≡ inside
        → (if some && inside then model_in n old.generation (page_at image n) else Err faults.Number) ≡ Ok model
        → (if some && nat_lt n new.pages then model_in n new.generation (page_at image n) else Err faults.Number) ≡ Ok model
    by_tests true true test there =
        let inside : nat_lt n new.pages ≡ true = grind (arith, nat_tests, test, more) in
        ap (λ (b : Bool). if b then model_in n new.generation (page_at image n) else Err faults.Number) inside
        ∙ model_later n old.generation new.generation (page_at image n) model le there
    by_tests true false test there = absurd cc
    by_tests false inside test there = absurd cc

-- ---- pages of a turn

made_other : (made : List PageModel) (n : ℕ) (other : Result PageModel PageFault) → AllByRecursion (λ (m : PageModel). m.page ≢ n) made
    → made_or made n other ≡ other
made_other [] n other ne = refl
made_other (m ∷ ms) n other ne =
    let test : (m.page == n) ≡ false = grind (arith, nat_tests, ne.0) in
    ap (λ (b : Bool). if b then Ok m else made_or ms n other) test ∙ made_other ms n other ne.1

-- a page that isn't made stays,
pub kept_there : (image : ℕ → List ℕ) (old : Root) (made : List PageModel) (tree free_list free_count n : ℕ) (content : Content)
    → AllByRecursion (λ (m : PageModel). m.page ≢ n) made → IsAt (store_of (model_at image old)) n content
    → IsAt (store_of (λ k. made_or made k (model_at image (next_root old made tree free_list free_count) k))) n content
kept_there image old made tree free_list free_count n content ne at =
    let next : Root = next_root old made tree free_list free_count in
    let found : IsFound (model_at image old n) content = found_at (model_at image old) n content at.live at.holds in
    let there : made_or made n (model_at image next n) ≡ Ok found.model =
    made_other made n (model_at image next n) ne ∙ still_read image old next n found.model (omega arith) (omega arith) found.is in
    record { number = at.number; live = ap is_ok there; holds = ap content_of there ∙ found.holds }

all_behind : (last : ℕ) (made : List PageModel) → LieBehind last made → AllByRecursion (λ (m : PageModel). last < m.page) made
all_behind last [] lie = tt
all_behind last (m ∷ ms) lie = (lie.0, weaker m.page ms (all_behind m.page ms lie.1))
  where
    weaker : (from : ℕ) (rest : List PageModel) → AllByRecursion (λ (x : PageModel). m.page < x.page) rest → AllByRecursion (λ (x : PageModel). last < x.page)
        rest
    weaker from [] all = tt
    weaker from (x ∷ xs) all = (omega (arith, lie.0, all.0), weaker from xs all.1)

behind_another : (others : ℕ → Result PageModel PageFault) (m : PageModel) (ms xs : List PageModel)
    → AllByRecursion (λ (x : PageModel). made_or ms x.page (others x.page) ≡ Ok x) xs → AllByRecursion (λ (x : PageModel). m.page < x.page) xs
    → AllByRecursion (λ (x : PageModel). made_or (m ∷ ms) x.page (others x.page) ≡ Ok x) xs
behind_another others m ms [] all above = tt
behind_another others m ms (x ∷ xs) all above =
    let lower : m.page < x.page = above.0 in
    let test : (m.page == x.page) ≡ false = grind (arith, nat_tests, lower) in
    (ap (λ (b : Bool). if b then Ok m else made_or ms x.page (others x.page)) test ∙ all.0, behind_another others m ms xs all.1 above.1)

-- and one that is made is there.
pub made_there : (others : ℕ → Result PageModel PageFault) (last : ℕ) (made : List PageModel) → LieBehind last made
    → AllByRecursion (λ (m : PageModel). made_or made m.page (others m.page) ≡ Ok m) made
made_there others last [] lie = tt
made_there others last (m ∷ ms) lie =
    let test : (m.page == m.page) ≡ true = grind (arith, nat_tests) in (
      ap (λ (b : Bool). if b then Ok m else made_or ms m.page (others m.page)) test,
      behind_another others m ms ms (made_there others m.page ms lie.1) (all_behind m.page ms lie.1),
    )

-- ---- the premises can be met: what is committed may be committed again

abbrev pub same_root : Root → Root
same_root root = next_root root [] root.tree root.free_list root.free_count

all_kept : (image : ℕ → List ℕ) (root : Root) (pages : List ℕ)
    → Each (Moves (store_of (model_at image root)) (store_of (λ k. made_or [] k (model_at image (same_root root) k)))) pages
all_kept image root [] = tt
all_kept image root (page ∷ pages) =
    ((λ content at. kept_there image root [] root.tree root.free_list root.free_count page content tt at), all_kept image root pages)

parts_kept : (image : ℕ → List ℕ) (root : Root) (parts : List Part) → HoldsList (list_in (model_at image root)) parts
    → HoldsList (list_in (model_at image (same_root root))) parts
parts_kept image root [] holds = tt
parts_kept image root (part ∷ rest) holds = (
  kept_part (model_at image root part.page) (model_at image (same_root root) part.page)
      (λ model is. still_read image root (same_root root) part.page model (omega arith) (omega arith) is) _ holds.0,
  parts_kept image root rest holds.1,
)
  where
    kept_part : (old new : Result PageModel PageFault) → ((model : PageModel) → old ≡ Ok model → new ≡ Ok model) → (content : ListContent)
        → listed_model old ≡ Some content → listed_model new ≡ Some content
    kept_part (Ok model) new still content is = ap listed_model (still model refl) ∙ is
    kept_part (Err fault) new still content is = absurd cc

list_kept : (image : ℕ → List ℕ) (root : Root) (live : List ℕ) (parts : List Part) → 0 < root.pages → HasList (model_at image root) root live parts
    → HasList (model_at image (same_root root)) (same_root root) live parts
list_kept image root live parts some has =
    let count : root.pages ≡ (same_root root).pages = omega (arith, some) in
    record {
      list = record {
        begins = has.list.begins;
        holds = parts_kept image root parts has.list.holds;
        counted = has.list.counted;
        once = subst (λ (n : ℕ). AreOnceBelow n (pages_of parts ++ named_by parts)) count has.list.once;
      };
      all = λ named. subst (λ (n : ℕ). IsPartition n live parts) count (has.all named);
    }

pub same_turn : (h : History) (root : Root) (live : List ℕ) (entries : List Entry) → Keeps h root live entries
    → IsTurn h root live [] (same_root root) live entries
same_turn h root live entries keeps = record {
  ascending = tt;
  inside = tt;
  models = tt;
  free = λ k parts has. tt;
  holds = λ k.
      let image = reads (now h) in
      let inside = known (image 0) (image 1) root (keeps.opens k) in
      let holds = keeps.holds k in
      record {
        map = map_moved (store_of (model_at image root)) (store_of (λ n. made_or [] n (model_at image (same_root root) n))) root.tree live entries
            (all_kept image root live) holds.map;
        once = holds.once;
        listed = (holds.listed.0, list_kept image root live holds.listed.0 (omega (arith, inside.tree)) holds.listed.1);
      };
}
