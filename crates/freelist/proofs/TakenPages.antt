-- Pages taken one after the other, each the least free one.
use Rattle.std.proofs.Common.{◌≡◌, ◌<◌, ◌≤◌, ◌+◌, ◌*◌, ℕ, zero, suc, true, false, List, [], ◌∷◌, ◌++◌, length, length-append, sym, ap, ◌∙◌, arith, refl, inl}
use Rattle.std.proofs.Common.{inr, set, Some, None, subst}
use Rattle.std.specs.Prelude.{get_or, if◌then◌else◌, max, Option, Result, Ok, Err, OnErr}
use Rattle.std.proofs.lemmas.Bool.Decides.{nat_tests}
use Rattle.std.proofs.lemmas.Bool.{cases_lt}
use Rattle.std.proofs.lemmas.List.{get_or-set_same}
use Rattle.freelist.specs.Book.{Book, Takes, is_free, is_free_state, is_in_use, is_used_state, least_free, refused, taken, undone}
use Rattle.freelist.specs.FreeList.{list_pages}
use Rattle.freelist.specs.ListWriting.{Counts, FindsNone, GoesBack, IsDraft, IsMade, TakesAll, count_with, needs_more, unused_below}
use Rattle.freelist.specs.Undone.{Call, after, given, take as asks}
use Rattle.freelist.specs.declared.draft.Draft.{Draft}
use Rattle.freelist.specs.declared.states.PageState.{PageState}
use Rattle.freelist.specs.declared.states.PageState.TheVariants as states
use Rattle.freelist.proofs.LeastLaws.{least_is_free, takes_least as least_first}
use Rattle.freelist.proofs.Rewinding.{below, free_is, put_back}
use Rattle.freelist.proofs.Undoing.{undoing_leads_back}
use Rattle.freelist.proofs.UnusedPages.{grows_with, one_fewer_unused, unused_past}

-- ---- one page more

pub takes_more : (pages : List ℕ) (page : ℕ) (old mid : Book) → TakesAll pages old mid → least_free mid.states ≡ Some page
    → TakesAll (pages ++ page ∷ []) old (taken page mid)
takes_more [] page old mid same least = (ap (λ (b : Book). least_free b.states) (sym same) ∙ least, ap (taken page) same)
takes_more (p ∷ pages) page old mid takes least = (takes.0, takes_more pages page (taken p old) mid takes.1 least)

pub counts_more : (page_count : ℕ) (pages : List ℕ) (page : ℕ) → count_with page_count (pages ++ page ∷ []) ≡ max (count_with page_count pages) (page + 1)
counts_more page_count [] page = refl
counts_more page_count (p ∷ pages) page = counts_more (max page_count (p + 1)) pages page

-- ---- undoing

-- as many takes as pages
abbrev asked_for : List ℕ → List Call
asked_for [] = []
asked_for (page ∷ pages) = asks ∷ asked_for pages

after_takes : (pages : List ℕ) (old new : Book) → TakesAll pages old new → after (asked_for pages) old ≡ new
after_takes [] old new same = sym same
after_takes (p ∷ pages) old new takes =
    ap (λ (found : Option ℕ). after (asked_for pages) (given found old)) takes.0 ∙ after_takes pages (taken p old) new takes.1

same_failed_allocations : (pages : List ℕ) (old new : Book) → TakesAll pages old new → new.failed_allocations ≡ old.failed_allocations
same_failed_allocations [] old new same = ap (λ (b : Book). b.failed_allocations) same
same_failed_allocations (p ∷ pages) old new takes = same_failed_allocations pages (taken p old) new takes.1

pub goes_back : (pages : List ℕ) (old new : Book) → TakesAll pages old new → GoesBack old old new
goes_back pages old new takes =
    ap (undone (length old.turn)) (sym (after_takes pages old new takes))
    ∙ undoing_leads_back old (asked_for pages)
    ∙ (λ i. record old {
      failed_allocations = (ap (λ (b : Book). b.failed_allocations) (after_takes pages old new takes)
          ∙ same_failed_allocations pages old new takes) i;
    })

pub refused_goes_back : (pages : List ℕ) (old new : Book) → TakesAll pages old new → GoesBack old (refused old) (refused new)
refused_goes_back pages old new takes =
    ap (λ (b : Book). record b { failed_allocations = (refused new).failed_allocations }) (goes_back pages old new takes) ∙ same
  where
    same : record old { failed_allocations = (refused new).failed_allocations } ≡ refused old
    same = λ i. record old {
      failed_allocations =
          (refused (record old { failed_allocations = same_failed_allocations pages old new takes i })).failed_allocations;
    }

-- ---- how many pages are free

abbrev pub free_count : List PageState → ℕ
free_count [] = 0
free_count (s ∷ pages) = (if is_free_state s then 1 else 0) + free_count pages

fewer_free : (pages : List PageState) (p : ℕ) → p < length pages → get_or pages p states.Retired ≡ states.Free
    → free_count (set pages p states.InUse) < free_count pages
fewer_free [] p within is = absurd (omega (arith, within))
fewer_free (s ∷ pages) zero within is = rw is (omega arith)
fewer_free (s ∷ pages) (suc p) within is = omega (arith, fewer_free pages p (omega (arith, within)) is)

pub least_state : (pages : List PageState) (p : ℕ) → least_free pages ≡ Some p → get_or pages p states.Retired ≡ states.Free
least_state pages p least = free_is (get_or pages p states.Retired) (least_is_free pages p least)

pub takes_free : (b : Book) (p : ℕ) → least_free b.states ≡ Some p → free_count (taken p b).states < free_count b.states
takes_free b p least =
    let is : get_or b.states p states.Retired ≡ states.Free = least_state b.states p least in
    fewer_free b.states p (below b.states p states.Free is (λ e. cc)) is

pub on_err : {T E P : Type 0} (r : Result T E) → P → OnErr r P
on_err (Ok x) h = tt
on_err (Err e) h = h

-- what a call left as it was of a book's pages
pub same_book : (b now : Book) (pages : List PageState) → b ≡ now → pages ≡ b.states → record b { states = pages } ≡ now
same_book b now pages is same = (λ i. record b { states = same i }) ∙ is

-- ---- a page that was taken

module _ (mid new : Book) (page : ℕ) (takes : Takes (Some page) mid new) where
  pub some_page : 0 < page
  some_page = elim (cases_lt 0 page) [
    | inl some ↦ some
    | inr none ↦
        let zero_page : page ≡ 0 = omega (arith, none) in
        let free : is_free mid.states 0 ≡ true = ap (is_free mid.states) (sym zero_page) ∙ (least_first mid.states page takes.0).0 in
        absurd (let never : false ≡ true = free in cc)
  ]

  pub within : page < length mid.states
  within = below mid.states page states.Free (least_state mid.states page takes.0) (λ e. cc)

  states_are : new.states ≡ set mid.states page states.InUse
  states_are = ap (λ (b : Book). b.states) takes.1

  pub is_used : (pages : List PageState) → pages ≡ new.states → is_in_use pages page ≡ true
  is_used pages same =
      ap (λ (ps : List PageState). is_in_use ps page) (same ∙ states_are)
      ∙ ap is_used_state (get_or-set_same mid.states page states.InUse states.Retired within)

  put_free : (pages : List PageState) → pages ≡ new.states → set pages page states.Free ≡ mid.states
  put_free pages same =
      ap (λ (ps : List PageState). set ps page states.Free) (same ∙ states_are)
      ∙ put_back mid.states page states.Free states.InUse (least_state mid.states page takes.0)

  pub counts_before : (draft : Draft) (pages : List PageState) → pages ≡ new.states → Counts draft mid.states
      → Counts draft (set pages page states.Free)
  counts_before draft pages same counts = counts ∙ ap (λ (ps : List PageState). length (unused_below draft.page_count ps)) (sym (put_free pages same))

  pub takes_fewer : free_count new.states < free_count mid.states
  takes_fewer = omega (arith, takes_free mid page takes.0, ap (λ (b : Book). free_count b.states) takes.1)

  -- at most one fewer isn't in use
  one_fewer_at_most : (k n : ℕ) → k ≤ n → length (unused_below k mid.states) ≤ length (unused_below n new.states) + 1
  one_fewer_at_most k n less = elim (cases_lt page k) [
    | inl inside ↦ omega (
      arith,
      grows_with k n new.states less,
      one_fewer_unused k page new.states some_page (is_used new.states refl) inside,
      ap (λ (ps : List PageState). length (unused_below k ps)) (put_free new.states refl),
    )
    | inr past ↦ omega (
      arith,
      grows_with k n new.states less,
      ap length (unused_past k page new.states states.Free past),
      ap (λ (ps : List PageState). length (unused_below k ps)) (put_free new.states refl),
    )
  ]

  pub takes_it : (pages : List ℕ) (old : Book) → TakesAll pages old mid → TakesAll (pages ++ page ∷ []) old new
  takes_it pages old so = subst (TakesAll (pages ++ page ∷ []) old) (sym takes.1) (takes_more pages page old mid so takes.0)

  pub goes_back_more : (pages : List ℕ) (old : Book) → TakesAll pages old mid → GoesBack old old new
  goes_back_more pages old so = goes_back (pages ++ page ∷ []) old new (takes_it pages old so)

  pub drafts_more : (page_count : ℕ) (draft next : Draft) (old : Book) → IsDraft page_count draft old mid → true ≡ needs_more draft
      → next.pages.items ≡ draft.pages.items ++ page ∷ [] → next.page_count ≡ max draft.page_count (page + 1)
      → Counts next new.states → IsDraft page_count next old new
  drafts_more page_count draft next old so needs pages_are ends counts = record {
    takes = subst (λ (ps : List ℕ). TakesAll ps old new) (sym pages_are)
        (takes_it draft.pages.items old so.takes);
    ends = ends ∙ ap (λ (n : ℕ). max n (page + 1)) so.ends ∙ sym (counts_more page_count draft.pages.items page)
        ∙ ap (count_with page_count) (sym pages_are);
    counts = counts;
    few = omega (
      arith,
      short,
      ap length pages_are,
      length-append draft.pages.items (page ∷ []),
      counts,
      so.counts,
      one_fewer_at_most draft.page_count next.page_count (omega (arith, ends)),
    );
    none = λ nothing. absurd (some_short nothing);
  }
    where
      short : 1019 * length draft.pages.items < draft.unused
      short =
          let more : length draft.pages.items < list_pages draft.unused = grind (arith, nat_tests) in
          omega (arith, more)

      some_short : unused_below page_count old.states ≡ [] → ⊥
      some_short nothing =
          let no_pages : draft.pages.items ≡ [] = so.none nothing in
          let same : mid ≡ old = subst (λ (ps : List ℕ). TakesAll ps old mid) no_pages so.takes in
          let ends_there : draft.page_count ≡ page_count = so.ends ∙ ap (count_with page_count) no_pages in
          let none : length (unused_below draft.page_count mid.states) ≡ 0 =
          ap (λ (n : ℕ). length (unused_below n mid.states)) ends_there
          ∙ ap (λ (b : Book). length (unused_below page_count b.states)) same ∙ ap length nothing in
          omega (arith, short, so.counts, none)

-- no page was free for a draft that needs more
pub finds_none : (page_count : ℕ) (draft : Draft) (old mid new : Book) → IsDraft page_count draft old mid → true ≡ needs_more draft
    → Takes None mid new → FindsNone page_count old new
finds_none page_count draft old mid new so needs takes = (
  record {
    pages = draft.pages.items;
    last = mid;
    takes = so.takes;
    none_free = takes.0;
    short = short;
  },
  ap (undone (length old.turn)) takes.1 ∙ refused_goes_back draft.pages.items old mid so.takes,
)
  where
    short : 1019 * length draft.pages.items < length (unused_below (count_with page_count draft.pages.items) mid.states)
    short =
        let more : length draft.pages.items < list_pages draft.unused = grind (arith, nat_tests) in
        omega (arith, more, so.counts, ap (λ (n : ℕ). length (unused_below n mid.states)) so.ends)

pub took : (old before mid : Book) (found : Option ℕ) (page : ℕ) → before ≡ old → found ≡ Some page → Takes found before mid → Takes (Some page) old mid
took old before mid found page same is takes =
    subst (λ (f : Option ℕ). Takes f old mid) is (subst (λ (b : Book). Takes found b mid) same takes)

-- nor for the first one
pub finds_none_first : (page_count : ℕ) (old new : Book) → 0 < length (unused_below page_count old.states) → Takes None old new
    → FindsNone page_count old new
finds_none_first page_count old new some takes = (
  record { pages = []; last = old; takes = refl; none_free = takes.0; short = omega (arith, some) },
  ap (undone (length old.turn)) takes.1 ∙ refused_goes_back [] old old refl,
)

-- a draft with its first page
pub drafts_first : (page_count : ℕ) (draft : Draft) (page : ℕ) (old new : Book) → 0 < length (unused_below page_count old.states)
    → Takes (Some page) old new → draft.pages.items ≡ page ∷ [] → draft.page_count ≡ max page_count (page + 1) → Counts draft new.states
    → IsDraft page_count draft old new
drafts_first page_count draft page old new some takes pages_are ends counts = record {
  takes = subst (λ (ps : List ℕ). TakesAll ps old new) (sym pages_are) (takes.0, takes.1);
  ends = ends ∙ ap (count_with page_count) (sym pages_are);
  counts = counts;
  few = omega (arith, ap length pages_are);
  none = λ nothing. absurd (omega (arith, some, ap length nothing));
}

-- where each page is in use
pub made_of_none : (page_count : ℕ) (pages named : List ℕ) (old new : Book) → new ≡ old → unused_below page_count old.states ≡ [] → pages ≡ [] → named ≡ []
    → IsMade page_count pages named old new
made_of_none page_count pages named old new same nothing no_pages none = record {
  takes = subst (λ (ps : List ℕ). TakesAll ps old new) (sym no_pages) same;
  names = none ∙ sym nothing ∙ ap (λ (b : Book). unused_below page_count b.states) (sym same)
      ∙ ap (λ (ps : List ℕ). unused_below (count_with page_count ps) new.states) (sym no_pages);
  room = omega (arith, ap length none);
  few = omega (arith, ap length no_pages);
  none = λ nothing. no_pages;
}

-- a draft that needs no more is a list, once it names what isn't in use
pub is_made : (page_count : ℕ) (draft : Draft) (named : List ℕ) (old new : Book) → IsDraft page_count draft old new → needs_more draft ≡ false
    → named ≡ unused_below draft.page_count new.states → IsMade page_count draft.pages.items named old new
is_made page_count draft named old new so enough names = record {
  takes = so.takes;
  names = names ∙ ap (λ (n : ℕ). unused_below n new.states) so.ends;
  room = room;
  few = omega (arith, so.few, so.counts, ap length names);
  none = so.none;
}
  where
    room : length named ≤ 1019 * length draft.pages.items
    room =
        let all : list_pages draft.unused ≤ length draft.pages.items = grind (arith, nat_tests) in
        omega (arith, all, so.counts, ap length names)
