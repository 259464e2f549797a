-- A pager in which no turn runs has the tree of its committed root.
use Rattle.std.proofs.Common.{◌≡◌, ℕ, ◌<◌, ◌≤◌, Bool, true, false, List, [], ◌∷◌, length, get_or, refl, ◌∙◌, ap, arith, inl, inr}
use Rattle.std.specs.Prelude.{◌&&◌, not, is_ok, nat_lt, reverse, Result}
use Rattle.std.proofs.lemmas.Bool.{cases_lt}
use Rattle.std.proofs.lemmas.List.{get_or_past}
use Rattle.page.specs.Format.{PageModel}
use Rattle.page.specs.History.{History, KeepsWord, now, reads}
use Rattle.page.specs.declared.page_fault.PageFault.{PageFault}
use Rattle.tree_model.specs.Keys.{Each, Entry, times}
use Rattle.tree_model.specs.Reach.{HasMap}
use Rattle.tree_model.specs.Store.{flag}
use Rattle.tree_model.proofs.ReachLemmas.{Moves, map_moved}
use Rattle.tree_model.proofs.StoreLemmas.{grows_itself}
use Rattle.freelist.specs.Book.{is_free, is_free_state, is_in_use, is_used_state}
use Rattle.freelist.specs.FreeList.{pages_of}
use Rattle.freelist.specs.declared.states.PageState.{PageState}
use Rattle.freelist.specs.declared.states.PageState.TheVariants as states
use Rattle.roots.specs.Image.{content_in, model_at, store_of as image_store}
use Rattle.roots.specs.Store.{durable_root}
use Rattle.roots.specs.Turn.{made_or, numbers_of}
use Rattle.pager.specs.Commit.{IsTurn}
use Rattle.pager.specs.State.{State}
use Rattle.pager.specs.Turn.{IsBegun}
use Rattle.pager.specs.View.{pager_history, models_of, store_of}
use Rattle.pager.proofs.BookLemmas.{one_time}
use Rattle.pager.proofs.MemberLemmas.{more_times, times_append}

-- what is in use isn't free
used_state : (s : PageState) (some : Bool) → is_used_state s ≡ true → (some && is_free_state s) ≡ false
used_state states.Free some is = absurd cc
used_state states.InUse true is = refl
used_state states.InUse false is = refl
used_state states.Retired some is = absurd cc

some_used : (b : Bool) → 1 ≤ flag b → b ≡ true
some_used true some = refl
some_used false some = absurd (omega (arith, some))

module _ {D : Type 0} (history : D → History) (p : State D) (live : List ℕ) (entries : List Entry) (begun : IsBegun history p live entries)
    (k : KeepsWord (pager_history history p)) where
  abbrev models : ℕ → Result PageModel PageFault
  models = model_at (reads (now (pager_history history p))) (durable_root p.store)

  on_disk : (n : ℕ) → models_of history p n ≡ models n
  on_disk n = ap (λ (made : List PageModel). made_or made n (models n)) begun.made

  pub used_live : (n : ℕ) → n < length p.book.states → times n live ≤ flag (is_in_use p.book.states n)
  used_live n within =
      let held = ((begun.committed k).keeps.holds k).listed in
      omega (arith, (begun.in_use k held.0 held.1).used n within, times_append n live (pages_of held.0))

  not_free : (n : ℕ) → 1 ≤ times n live → is_free p.book.states n ≡ false
  not_free n reached = elim (cases_lt n (length p.book.states)) [
    | inl within ↦ used_state (get_or p.book.states n states.Retired) (nat_lt 0 n)
        (some_used (is_in_use p.book.states n) (omega (arith, reached, used_live n within)))
    | inr past ↦ ap (λ (s : PageState). nat_lt 0 n && is_free_state s) (get_or_past p.book.states n states.Retired past) ∙ none_free (nat_lt 0 n)
  ]
    where
      none_free : (b : Bool) → (b && false) ≡ false
      none_free true = refl
      none_free false = refl

  moved_there : (n : ℕ) → 1 ≤ times n live → Moves (image_store models) (store_of history p) n
  moved_there n reached content at = record {
    number = at.number;
    live = (λ i. is_ok (on_disk n i) && not (not_free n reached i)) ∙ both_true (is_ok (models n)) at.live;
    holds = ap content_in (on_disk n) ∙ at.holds;
  }
    where
      both_true : (b : Bool) → b ≡ true → (b && true) ≡ true
      both_true true is = refl
      both_true false is = is

  moved_all : (some : List ℕ) → ((n : ℕ) → times n some ≤ times n live) → Each (Moves (image_store models) (store_of history p)) some
  moved_all [] less = tt
  moved_all (n ∷ rest) less = (moved_there n (omega (arith, less n, one_time n n rest refl)), moved_all rest (λ m. omega (arith, less m, more_times m n rest)))

  pub begun_map : HasMap (store_of history p) (durable_root p.store).tree live entries
  begun_map = map_moved (image_store models) (store_of history p) (durable_root p.store).tree live entries (moved_all live (λ n. omega arith))
      ((begun.committed k).keeps.holds k).map

  -- a turn in which nothing was done
  pub turn_begins : IsTurn history p p (durable_root p.store).tree live live entries
  turn_begins = record {
    grows = grows_itself (store_of history p);
    holds = begun_map;
    account = λ n.
        let none : times n (reverse p.retired) ≡ 0 = ap (λ (l : List ℕ). times n (reverse l)) begun.retired in
        let never : times n (reverse (numbers_of p.made)) ≡ 0 = ap (λ (made : List PageModel). times n (reverse (numbers_of made))) begun.made in
        omega (arith, none, never);
  }
