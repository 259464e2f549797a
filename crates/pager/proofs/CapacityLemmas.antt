-- The pages of a turn's tree are pages of the file, each once.
use Rattle.std.proofs.Common.{◌≡◌, ℕ, ◌<◌, ◌≤◌, Bool, true, false, not, List, [], ◌∷◌, length, get_or, refl, sym, ◌∙◌, ap, subst, arith, inl, inr}
use Rattle.std.specs.Prelude.{◌&&◌, nat_lt, is_ok, reverse}
use Rattle.std.specs.List.{AllByRecursion}
use Rattle.std.proofs.lemmas.Bool.{cases_eq, cases_lt}
use Rattle.std.proofs.lemmas.List.{get_or_past}
use Rattle.page.specs.Format.{PageModel}
use Rattle.page.specs.History.{History, KeepsWord, now, reads}
use Rattle.page.specs.declared.page_cache.PageCache.{PageCache}
use Rattle.tree_model.specs.Keys.{Each, Entry, times}
use Rattle.tree_model.specs.Reach.{AreOnce}
use Rattle.tree_model.specs.Store.{Frame, flag}
use Rattle.tree_model.proofs.CapacityLemmas.{entries_are_few, pages_are_few}
use Rattle.tree_model.proofs.OnceLemmas.{map_live}
use Rattle.freelist.specs.Book.{Book, is_free, is_free_state, is_in_use, is_used_state}
use Rattle.freelist.specs.declared.states.PageState.{PageState}
use Rattle.freelist.specs.declared.states.PageState.TheVariants as states
use Rattle.roots.specs.Root.{IsKnown}
use Rattle.roots.specs.declared.root.Root.{Root}
use Rattle.roots.specs.declared.store.Store.{Store}
use Rattle.roots.specs.Image.{HoldsMap, model_at, store_of as image_store}
use Rattle.roots.specs.Store.{durable_root}
use Rattle.roots.specs.Turn.{made_or, numbers_of}
use Rattle.roots.proofs.CountLemmas.{model_inside}
use Rattle.roots.proofs.OpeningRules.{known}
use Rattle.pager.specs.Capacity.{FitsFile, TreesFit}
use Rattle.pager.specs.Commit.{IsTurn}
use Rattle.pager.specs.Kept.{IsKept, IsNew}
use Rattle.pager.specs.State.{State}
use Rattle.pager.specs.Turn.{IsBegun}
use Rattle.pager.specs.View.{pager_history, models_of, store_of}
use Rattle.pager.proofs.BeginLemmas.{used_live}
use Rattle.pager.proofs.BookLemmas.{no_time, one_time}
use Rattle.pager.proofs.ListLemmas.{all_weaker}
use Rattle.pager.proofs.MemberLemmas.{more_times, times_reverse}

-- ---- members of a list

pub has_times : (P : ℕ → Type 0) (n : ℕ) (xs : List ℕ) → Each P xs → 1 ≤ times n xs → P n
has_times P n [] all some = absurd (omega (arith, some))
has_times P n (x ∷ xs) all some = elim (cases_eq n x) [
  | inl is ↦ subst P (sym is) all.0
  | inr ne ↦ has_times P n xs all.1 (omega (arith, some, no_time n x xs ne))
]

pub each_there : (P : ℕ → Type 0) (xs : List ℕ) → ((n : ℕ) → 1 ≤ times n xs → P n) → Each P xs
each_there P [] there = tt
each_there P (x ∷ xs) there =
    (there x (omega (arith, one_time x x xs refl)), each_there P xs (λ n some. there n (omega (arith, some, more_times n x xs))))

pub each_number : (P : ℕ → Type 0) (made : List PageModel) → AllByRecursion (λ (m : PageModel). P m.page) made → Each P (numbers_of made)
each_number P [] all = tt
each_number P (m ∷ ms) all = (all.0, each_number P ms all.1)

-- ---- what is in use isn't free

used_state : (s : PageState) → is_used_state s ≡ true → is_free_state s ≡ false
used_state states.Free used = absurd cc
used_state states.InUse used = refl
used_state states.Retired used = refl

not_both : (a b : Bool) → b ≡ false → not (a && b) ≡ true
not_both true b is = ap not is
not_both false b is = refl

flag_is : (b : Bool) → 1 ≤ flag b → b ≡ true
flag_is true some = refl
flag_is false some = absurd (omega (arith, some))

flag_small : (b : Bool) → flag b ≤ 1
flag_small true = omega arith
flag_small false = omega arith

-- ---- the pages that were live

module _ {D : Type 0} (history : D → History) (start : State D) (live : List ℕ) (before : List Entry) (begun : IsBegun history start live before)
    (k : KeepsWord (pager_history history start)) where
  abbrev image : ℕ → List ℕ
  image = reads (now (pager_history history start))

  abbrev root : Root
  root = durable_root start.store

  holds : HoldsMap (model_at image root) root live before
  holds = (begun.committed k).keeps.holds k

  there : Each (λ n. is_ok (model_at image root n) ≡ true) live
  there = map_live (image_store (model_at image root)) root.tree live before holds.map

  known_root : IsKnown root
  known_root = known (image 0) (image 1) root ((begun.committed k).keeps.opens k)

  not_free : (n : ℕ) → 1 ≤ times n live → not (is_free start.book.states n) ≡ true
  not_free n some = elim (cases_lt n (length start.book.states)) [
    | inl within ↦
        let used : is_in_use start.book.states n ≡ true =
        flag_is (is_in_use start.book.states n) (omega (arith, some, used_live history start live before begun k n within)) in
        not_both (nat_lt 0 n) (is_free_state (get_or start.book.states n states.Retired)) (used_state (get_or start.book.states n states.Retired) used)
    | inr past ↦
        not_both (nat_lt 0 n) (is_free_state (get_or start.book.states n states.Retired))
        (ap is_free_state (get_or_past start.book.states n states.Retired past))
  ]

  live_flag : (n : ℕ) → times n live ≤ flag ((store_of history start).live n)
  live_flag n = elim (cases_lt 0 (times n live)) [
    | inl some ↦
        let found : is_ok (model_at image root n) ≡ true = has_times (λ m. is_ok (model_at image root m) ≡ true) n live there (omega (arith, some)) in
        let same : models_of history start n ≡ model_at image root n = ap (λ (made : List PageModel). made_or made n (model_at image root n)) begun.made in
        let ok : is_ok (models_of history start n) ≡ true = ap is_ok same ∙ found in
        let unfree : not (is_free start.book.states n) ≡ true = not_free n (omega (arith, some)) in
        let extends : (store_of history start).live n ≡ true = (λ i. ok i && unfree i) in
        omega (arith, holds.once n, ap flag extends)
    | inr none ↦ omega (arith, none)
  ]

  none_made : (n : ℕ) → times n (store_of history start).made ≡ 0
  none_made n = ap (λ (made : List PageModel). times n (reverse (numbers_of made))) begun.made

  -- ---- and those that the turn reaches

  module _ (p : State D) (inside : AllByRecursion (λ (m : PageModel). m.page < 1048576) p.made) (tree : ℕ) (pages : List ℕ) (after : List Entry)
      (turn : IsTurn history start p tree live pages after)
      (frame : Frame (store_of history start) (store_of history p)) where
    once : AreOnce pages
    once n = omega (arith, turn.account n, live_flag n, frame.made n, none_made n, flag_small ((store_of history p).live n))

    reached_inside : (n : ℕ) → 1 ≤ times n pages → n < 1048576
    reached_inside n some = elim (cases_lt 0 (times n live)) [
      | inl lived ↦
          let found : is_ok (model_at image root n) ≡ true = has_times (λ m. is_ok (model_at image root m) ≡ true) n live there (omega (arith, lived)) in
          omega (arith, (model_inside image root n found).1, known_root.pages)
      | inr none ↦
          has_times (λ m. m < 1048576) n (numbers_of p.made) (each_number (λ m. m < 1048576) p.made inside)
          (omega (arith, some, none, turn.account n, times_reverse n (numbers_of p.made)))
    ]

    fits : FitsFile pages after
    fits =
        let all : Each (λ n. n < 1048576) pages = each_there (λ n. n < 1048576) pages reached_inside in
        record {
          once = once;
          inside = all;
          few = omega (arith, entries_are_few (store_of history p) tree pages after turn.holds, pages_are_few 1048576 pages once all);
        }

pub trees_fit : {D : Type 0} {listed places : List ℕ} (history : D → History) (store : Store D) (cache : PageCache) (made : List PageModel) (retired : List ℕ)
    (book : Book)
    → IsKept history store cache made book listed places
    → TreesFit history (record { store = store; made = made; retired = retired; book = book })
trees_fit history store cache made retired book so start live before begun root pages after turn k =
    let inside : AllByRecursion (λ (m : PageModel). m.page < 1048576) made =
    all_weaker (IsNew (durable_root store).generation cache) (λ (m : PageModel). m.page < 1048576) (λ m new. new.inside) made so.each in
    let frame = turn.grows.frame k in
    fits history start live before begun frame.word (record { store = store; made = made; retired = retired; book = book }) inside root pages after turn frame
