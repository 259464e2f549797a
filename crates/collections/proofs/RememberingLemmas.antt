-- What is remembered stays right while the pages are only read, and is told again.
use Rattle.std.proofs.Common.{◌≡◌, ℕ, ◌<◌, List, [], ◌∷◌, length, get_or, true, false, refl, sym, ◌∙◌, ap, subst, arith, inl, inr}
use Rattle.std.specs.Prelude.{Bool, ◌&&◌, nat_lt, not, if◌then◌else◌, is_ok, slice_set, Option, Some, None, IfSome, IsSomeAnd, Result, Ok, Err, OnOk, OnErr}
use Rattle.std.specs.Global.{Vec}
use Rattle.std.specs.Option.{option_map}
use Rattle.std.proofs.lemmas.Bool.{cases_eq}
use Rattle.std.proofs.lemmas.List.{get_or-set_other, get_or-set_same}
use Rattle.page.specs.Content.{Content}
use Rattle.page.specs.History.{History, KeepsWord}
use Rattle.tree_model.specs.Store.{IsAt, IsSame, Store}
use Rattle.tree_model.proofs.StoreLemmas.{grows_itself}
use Rattle.freelist.specs.Book.{freed, is_free, is_free_state, is_pinned, pinned, unpinned, without}
use Rattle.freelist.specs.declared.states.PageState.{PageState}
use Rattle.freelist.specs.declared.states.PageState.TheVariants as states
use Rattle.freelist.specs.declared.turns.Retirement.{Retirement}
use Rattle.pager.specs.State.{State as PagerState}
use Rattle.pager.specs.View.{models_of}
use Rattle.pager.specs.declared.version.Version.{Version}
use Rattle.pager.proofs.ListedLemmas.{free_inside}
use Rattle.pager.proofs.StayLemmas.{map_at}
use Rattle.value_order.specs.KeyText.{tree_text}
use Rattle.entry_model.specs.State.{Collection, find_collection, words}
use Rattle.entry_model.specs.StateEntries.{key_under}
use Rattle.entries.specs.declared.catalogue_reading.Catalogued.{Catalogued}
use Rattle.collections.specs.Below.{HasBelow, IsNothing, ReadsBelow}
use Rattle.collections.specs.Calls.{Reads}
use Rattle.collections.specs.Lookups.{IsInTree, IsValueAt, catalogued_in, catalogued_of}
use Rattle.collections.specs.Remembering.{IsOf, IsRemembered, Memory, Tells, TellsAgain}
use Rattle.collections.specs.State.{State}
use Rattle.collections.specs.View.{disk_history, is_stopped, pages_of}
use Rattle.collections.proofs.BelowLemmas.{turn_has}
use Rattle.collections.proofs.FoundLemmas.{one_told}

-- ---- trees of pages that were there before

-- what is live there is live in the other, with its content
abbrev pub IsPartOf : Store → Store → Type 0
IsPartOf one other = (n : ℕ) (content : Content) → IsAt one n content → IsAt other n content

-- what was only read has the pages that it had
same_part : (old new : Store) → IsSame old new → IsPartOf new old
same_part old new same n content at = record {
  number = at.number;
  live = ap (λ f. f n) (sym same.live) ∙ at.live;
  holds = ap (λ f. f n) (sym same.page) ∙ at.holds;
}

pub below_back : {D : Type 0} (history : D → History) (old new : State D) → IsPartOf (pages_of history new) (pages_of history old)
    → (root : ℕ) (collections : List Collection) → HasBelow history new root collections → HasBelow history old root collections
below_back history old new part root collections has = record {
  pages = has.pages;
  entries = has.entries;
  holds = map_at (pages_of history new) (pages_of history old) root has.pages has.entries part has.holds;
  spells = has.spells;
  state = has.state;
}

-- ---- how long it is right

module _ {D : Type 0} (history : D → History) (old new : State D) (word : KeepsWord (disk_history history new) → KeepsWord (disk_history history old))
    (part : KeepsWord (disk_history history new) → IsPartOf (pages_of history new) (pages_of history old)) where
  pub kept_while : (remembered : Option Memory) → IsRemembered history old remembered → IsRemembered history new remembered
  kept_while None is = tt
  kept_while (Some m) is = by_root m.root is
    where
      by_root : (root : Option ℕ)
          → IfSome root (λ root. KeepsWord (disk_history history old) → (collections : List Collection) → HasBelow history old root collections
          → Tells m.namespace m.told collections)
          → IfSome root (λ root. KeepsWord (disk_history history new) → (collections : List Collection) → HasBelow history new root collections
          → Tells m.namespace m.told collections)
      by_root None is = tt
      by_root (Some root) is = λ k collections has. is (word k) collections (below_back history old new (part k) root collections has)

-- a look at the pages
pub kept_reading : {D : Type 0} (history : D → History) (old new : State D)
    → (KeepsWord (disk_history history new) → IsSame (pages_of history old) (pages_of history new))
    → (remembered : Option Memory) → IsRemembered history old remembered → IsRemembered history new remembered
kept_reading history old new same =
    kept_while history old new (λ k. (same k).word) (λ k. same_part (pages_of history old) (pages_of history new) (same k))

-- nothing is said of any tree
pub forgotten : {D : Type 0} (history : D → History) (c : State D) (remembered : Option Memory) → IfSome remembered (λ m. m.root ≡ None)
    → IsRemembered history c remembered
forgotten history c None none = tt
forgotten history c (Some m) none =
    subst (λ (root : Option ℕ). IfSome root (λ root. KeepsWord (disk_history history c) → (collections : List Collection)
    → HasBelow history c root collections → Tells m.namespace m.told collections)) (sym none) tt

-- ---- what is remembered of a look at the tree

module _ {D : Type 0} (history : D → History) (old new : State D) (root : ℕ) (name key : List ℕ) (value : Vec ℕ)
    (found : Option (Vec ℕ)) (found_is : found ≡ Some value) (is : key ≡ key_under 0 0 (tree_text (words name)))
    (same : KeepsWord (disk_history history new) → IsSame (pages_of history old) (pages_of history new))
    (reads : ReadsBelow history root IsNothing (λ now asked. IsInTree (IsValueAt key) now) (Ok found) old new) where
  pub remembered_now : (remembered : Option Memory) → IsSomeAnd remembered (IsOf root name value.items) → IsRemembered history new remembered
  remembered_now None of = absurd of
  remembered_now (Some m) of =
      subst (λ (root : Option ℕ). IfSome root (λ root. KeepsWord (disk_history history new) → (collections : List Collection)
      → HasBelow history new root collections → Tells m.namespace m.told collections)) (sym of.there)
      (λ k collections has.
      let there = below_back history old new (same_part (pages_of history old) (pages_of history new) (same k)) root collections has in
      subst (λ (n : List ℕ). Tells n m.told collections) (sym of.same)
      (one_told collections name key is value (Ok m.told)
      (subst (IsInTree (IsValueAt key) collections) found_is (reads.answers k collections there tt tt)) (λ c kept at. of.told.says c kept at)))

-- ---- what is told again

module _ {D : Type 0} (history : D → History) (c : State D) (name : List ℕ) (told : Catalogued) where
  tells_again : (remembered : Option Memory) → IsRemembered history c remembered → TellsAgain c.root name remembered told
      → KeepsWord (disk_history history c) → (now : List Collection) → HasBelow history c c.root now → Tells name told now
  tells_again None is again k now has = absurd again
  tells_again (Some m) is again k now has =
      let right : Tells m.namespace m.told now =
      subst (λ (root : Option ℕ). IfSome root (λ root. KeepsWord (disk_history history c) → (collections : List Collection)
      → HasBelow history c root collections → Tells m.namespace m.told collections)) again.0 is k now has in
      ap Some again.2 ∙ subst (λ (n : List ℕ). Tells n m.told now) again.1 right

  pub reads_again : (remembered : Option Memory) → IsRemembered history c remembered → TellsAgain c.root name remembered told → is_stopped c ≡ false
      → Reads history (λ now found. option_map catalogued_of found ≡ option_map catalogued_in (find_collection now name)) (Ok (Some told)) c c
  reads_again remembered is again running = record {
    extends = grows_itself (pages_of history c);
    unchanged = refl;
    same = λ start now has. has;
    answers = λ k start now has. tells_again remembered is again k now (turn_has history c start now (has running k));
  }

-- ---- a pin, and the end of one

-- a page that was freed
still_free : (pages : List PageState) (p n : ℕ) → is_free pages n ≡ true → is_free (slice_set pages p states.Free) n ≡ true
still_free pages p n free = elim (cases_eq n p) [
  | inl same ↦
      let within : p < length pages = omega (arith, same, (free_inside pages n free).1) in
      ap (is_free (slice_set pages p states.Free)) same
      ∙ ap (λ (s : PageState). nat_lt 0 p && is_free_state s) (get_or-set_same pages p states.Free states.Retired within)
      ∙ some_left (nat_lt 0 p) (is_free_state (get_or pages p states.Retired)) (sym (ap (is_free pages) same) ∙ free)
  | inr other ↦ ap (λ (s : PageState). nat_lt 0 n && is_free_state s) (get_or-set_other pages p n states.Free states.Retired other) ∙ free
]
  where
    some_left : (a b : Bool) → (a && b) ≡ true → (a && true) ≡ true
    some_left true b is = refl
    some_left false b is = absurd cc

one_freed : (kept : Bool) (pages : List PageState) (p n : ℕ) → is_free pages n ≡ true
    → is_free (if kept then pages else slice_set pages p states.Free) n ≡ true
one_freed true pages p n free = free
one_freed false pages p n free = still_free pages p n free

free_stays : (pins : List ℕ) (rs : List Retirement) (pages : List PageState) (n : ℕ) → is_free pages n ≡ true → is_free (freed pins rs pages) n ≡ true
free_stays pins [] pages n free = free
free_stays pins (r ∷ rs) pages n free = free_stays pins rs _ n (one_freed (is_pinned pins r.version) pages r.page n free)

-- what is live is a page that wasn't free before
live_before : (page before after : Bool) → (before ≡ true → after ≡ true) → (page && not after) ≡ true → (page && not before) ≡ true
live_before true true true extends live = absurd cc
live_before true true false extends live = absurd (let never : false ≡ true = extends refl in cc)
live_before true false after extends live = refl
live_before false before after extends live = absurd cc

module _ {D : Type 0} (history : D → History) (root : ℕ) (old : PagerState D) (remembered : Option Memory) where
  abbrev at : PagerState D → State D
  at p = record { pager = p; root = root }

  -- no page is another, and none is live that wasn't
  pub kept_pinned : {E : Type 0} (generation : ℕ) (r : Result Version E) (new : PagerState D)
      → OnOk r (new ≡ record old { book = pinned generation old.book }) → OnErr r (new ≡ old)
      → IsRemembered history (at old) remembered → IsRemembered history (at new) remembered
  kept_pinned generation (Ok version) new done failed is =
      subst (λ (p : PagerState D). IsRemembered history (at p) remembered) (sym done)
      (kept_while history (at old) (at (record old { book = pinned generation old.book })) (λ k. k)
      (λ k n content there. record { number = there.number; live = there.live; holds = there.holds }) remembered is)
  kept_pinned generation (Err e) new done failed is =
      subst (λ (p : PagerState D). IsRemembered history (at p) remembered) (sym failed) is

  pub kept_unpinned : (version : ℕ) (new : PagerState D) → new ≡ record old { book = unpinned version old.book }
      → IsRemembered history (at old) remembered → IsRemembered history (at new) remembered
  kept_unpinned version new done is =
      subst (λ (p : PagerState D). IsRemembered history (at p) remembered) (sym done)
      (kept_while history (at old) (at (record old { book = unpinned version old.book })) (λ k. k)
      (λ k n content there. record {
        number = there.number;
        live = live_before (is_ok (models_of history old n)) (is_free old.book.states n)
            (is_free (freed (without version old.book.pins) old.book.waiting old.book.states) n)
            (free_stays (without version old.book.pins) old.book.waiting old.book.states n) there.live;
        holds = there.holds;
      }) remembered is)
