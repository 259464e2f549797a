-- What a commit writes: the pages of the turn that are in use or wait, and those of a list of what is free then.
use Rattle.std.proofs.Common.{◌≡◌, ℕ, ◌+◌, ◌<◌, ◌≤◌, max, false, List, [], ◌∷◌, ◌++◌, ◌≢◌, length, get_or, inl, inr, sym, refl, ◌∙◌, ap, arith, None}
use Rattle.std.specs.Prelude.{Bool, true, ◌&&◌, ◌||◌, nat_lt, not}
use Rattle.std.specs.List.{AllByRecursion}
use Rattle.std.proofs.lemmas.Bool.{cases_Bool}
use Rattle.std.proofs.lemmas.Bool.Decides.{nat_tests}
use Rattle.std.proofs.lemmas.List.{get_or_default}
use Rattle.page.specs.Cache.{kept}
use Rattle.page.specs.Content.{IsContent, is_of_tree}
use Rattle.page.specs.Format.{PageModel}
use Rattle.page.specs.History.{History}
use Rattle.page.specs.PageLaws.{IsPageModel}
use Rattle.page.specs.declared.page_cache.PageCache.{PageCache}
use Rattle.tree_model.specs.Keys.{times}
use Rattle.tree_model.specs.Store.{flag}
use Rattle.freelist.specs.Book.{Book, committed, is_free, is_in_use, is_pinned, is_used_state}
use Rattle.freelist.specs.FreeList.{AreOnceBelow, first_page, times_in, written}
use Rattle.freelist.specs.ListWriting.{IsMade, count_with}
use Rattle.freelist.specs.Sound.{IsSound}
use Rattle.freelist.specs.declared.states.PageState.TheVariants as states
use Rattle.freelist.proofs.MadeLists.{once, stays_sound_taking}
use Rattle.freelist.proofs.Marking.{times_in-append}
use Rattle.freelist.proofs.SoundBooks.{stays_sound}
use Rattle.freelist.proofs.UnusedPages.{times_unused}
use Rattle.roots.specs.declared.root.Root.{Root}
use Rattle.roots.specs.declared.store.Store.{Store}
use Rattle.roots.specs.Listed.{list_models}
use Rattle.roots.specs.Store.{durable_root}
use Rattle.roots.specs.Turn.{LieBehind, numbers_of}
use Rattle.roots.proofs.ListingLemmas.{all_pages, list_is_written}
use Rattle.roots.proofs.MadeLemmas.{end_most}
use Rattle.pager.specs.Kept.{IsBookFor, IsKept, IsNew}
use Rattle.pager.specs.Order.{merged, pages_at}
use Rattle.pager.specs.Planning.{next_generation, pages_with}
use Rattle.pager.specs.Writing.{retired_all, written_of}
use Rattle.pager.proofs.BookLemmas.{all_full, all_length, all_sound, committed_length, committed_use}
use Rattle.pager.proofs.BookLemmas.{made_below, one_time}
use Rattle.pager.proofs.ListLemmas.{all_both, all_weaker}
use Rattle.pager.proofs.ListedLemmas.{IsAsWide, all_free, as_wide, count_all, count_within, few_unused, free_before, free_inside, free_unused}
use Rattle.pager.proofs.ListedLemmas.{list_rises, models_of}
use Rattle.pager.proofs.MemberLemmas.{all_filter, each_counted, free_not_made, lie_filter}
use Rattle.pager.proofs.MergeLemmas.{AreApart, all_merged, lie_merged}
use Rattle.pager.proofs.OrderLemmas.{all_at}

module _ {D : Type 0} {listed places : List ℕ} (history : D → History) (store : Store D) (cache : PageCache) (made : List PageModel) (retired : List ℕ)
    (book : Book) (so : IsKept history store cache made book listed places) where
  abbrev root : Root
  root = durable_root store

  abbrev pub planned : Book
  planned = retired_all root.generation retired book

  abbrev pub tree : List PageModel
  tree = written_of root.generation planned (pages_at made places)

  abbrev test : PageModel → Bool
  test model = is_of_tree model.content && (is_in_use planned.states model.page || is_pinned planned.pins root.generation)

  tree_new : AllByRecursion (IsNew root.generation cache) tree
  tree_new = all_filter (IsNew root.generation cache) test (pages_at made places) (all_at (IsNew root.generation cache) made places so.order.inside so.each)

  pub tree_inside : AllByRecursion (λ (m : PageModel). m.page < 1048576) tree
  tree_inside = all_weaker (IsNew root.generation cache) (λ (m : PageModel). m.page < 1048576) (λ m one. one.inside) tree tree_new

  pub planned_sound : IsSound planned
  planned_sound = all_sound root.generation retired book so.booked.sound

  pub planned_long : length planned.states ≡ length book.states
  planned_long = all_length root.generation retired book

  module _ (pages named : List ℕ) (final : Book) (list : IsMade (pages_with root tree) pages named planned final) where
    abbrev born : ℕ
    born = next_generation root

    abbrev models : List PageModel
    models = list_models born (written pages named)

    abbrev pub all : List PageModel
    all = merged tree models

    abbrev count : ℕ
    count = count_with (pages_with root tree) pages

    pub wide : IsAsWide planned final
    wide = as_wide pages planned final list.takes

    -- what is taken for the list was free all along
    pub free_then : (n : ℕ) → 1 ≤ times n pages → is_free book.states n ≡ true
    free_then n some = free_before root.generation retired book n (all_free pages planned final list.takes n some)

    tree_lie : LieBehind 0 tree
    tree_lie = lie_filter 0 test (pages_at made places) so.order.ascending

    models_lie : LieBehind 0 models
    models_lie = list_rises 0 born pages named planned final list.takes (λ n free. (free_inside planned.states n free).0)

    -- and no page of the turn is free
    apart : AreApart tree models
    apart =
        models_of (λ (y : PageModel). AllByRecursion (λ (x : PageModel). x.page ≢ y.page) tree) born pages named
        (λ m is some. all_filter (λ (x : PageModel). x.page ≢ m.page) test (pages_at made places)
        (all_at (λ (x : PageModel). x.page ≢ m.page) made places so.order.inside
        (free_not_made made book so.booked m.page (free_unused book.states m.page (free_then m.page some)))))

    pub all_lie : LieBehind 0 all
    all_lie = lie_merged 0 tree models tree_lie models_lie apart

    pub all_inside : AllByRecursion (λ (m : PageModel). m.page < 1048576) all
    all_inside =
        all_merged (λ (m : PageModel). m.page < 1048576) tree models tree_inside
        (models_of (λ (m : PageModel). m.page < 1048576) born pages named
        (λ m is some. omega (arith, (free_inside book.states m.page (free_then m.page some)).1, so.booked.limit)))

    -- where none of the list's pages is in the cache
    pub all_new : ((n : ℕ) → 1 ≤ times n pages → kept cache n ≡ None) → AllByRecursion (IsNew root.generation cache) all
    all_new gone =
        all_merged (IsNew root.generation cache) tree models tree_new
        (models_of (IsNew root.generation cache) born pages named (λ m is some. record {
          inside = omega (arith, (free_inside book.states m.page (free_then m.page some)).1, so.booked.limit);
          some = omega (arith, is);
          small = omega (arith, is);
          until = omega (arith, is);
          uncached = gone m.page some;
        }))

    -- the file has so many pages then
    pub count_is : pages_with root all ≡ count
    count_is = count_all root.pages born tree pages named tree_lie models_lie all_lie

    pub fits : count ≤ length planned.states
    fits =
        let each : AllByRecursion (λ (m : PageModel). m.page < length planned.states) tree =
        all_filter (λ (m : PageModel). m.page < length planned.states) test (pages_at made places)
        (all_at (λ (m : PageModel). m.page < length planned.states) made places so.order.inside
        (all_weaker (λ (m : PageModel). 1 ≤ times m.page (numbers_of made)) (λ (m : PageModel). m.page < length planned.states)
        (λ m some. omega (arith, planned_long, made_below made book so.booked m.page some)) made (each_counted made))) in
        count_within (length planned.states) (pages_with root tree) pages
        (omega (arith, so.wide, planned_long, end_most (length planned.states) tree 1 (omega (arith, so.wide, planned_long)) each))
        (λ n some. omega (arith, planned_long, (free_inside book.states n (free_then n some)).1))

    pub few : count ≤ 1048576
    few = omega (arith, fits, planned_long, so.booked.limit)

    pub named_few : length named ≤ 1048576
    named_few = omega (arith, ap length list.names, few_unused count final.states, few)

    pub all_models : AllByRecursion (λ (m : PageModel). IsContent m.content) tree → AllByRecursion (IsPageModel (root.generation + 1)) all
    all_models content =
        let each_once : AreOnceBelow count (pages ++ named) = once (pages_with root tree) pages named planned final list in
        all_merged (IsPageModel (root.generation + 1)) tree models
        (all_both (IsNew root.generation cache) (λ (m : PageModel). IsContent m.content) (IsPageModel (root.generation + 1))
        (λ m one holds. record { page = omega (arith, one.inside); some = one.some; small = one.small; until = one.until; content = holds }) tree tree_new
        content)
        (list_is_written (root.generation + 1) born count (omega arith) (omega arith) (omega arith) few pages named
        (all_pages count pages (λ n. omega (arith, each_once n, times_in-append n pages named)))
        (λ n. omega (arith, each_once n, times_in-append n pages named)))

    -- the book of the next turn
    pub final_sound : IsSound final
    final_sound = stays_sound_taking pages planned final list.takes planned_sound

    pub booked_after : (last : ℕ) → IsBookFor [] (committed last final)
    booked_after last = record {
      sound = (stays_sound final final_sound).committed last;
      turn = refl;
      limit = omega (arith, committed_length last final, wide.long, planned_long, so.booked.limit);
      count = omega (arith, wide.full, all_full root.generation retired book, so.booked.count);
    }

    pub wide_after : (last : ℕ) → max (pages_with root all) 1 ≤ length (committed last final).states
    wide_after last = omega (arith, count_is, fits, wide.long, committed_length last final, so.wide, planned_long)

    -- ---- a root that names no list

    no_first : (those : List ℕ) (names : List ℕ) → ((n : ℕ) → 1 ≤ times n those → 0 < n) → first_page (written those names) ≡ 0 → length those ≡ 0
    no_first [] names some none = refl
    no_first (p ∷ those) names some none = absurd (omega (arith, none, some p (omega (arith, one_time p p those refl))))

    none_in : (n : ℕ) (xs : List ℕ) → length xs ≡ 0 → times_in n xs ≡ 0
    none_in n [] none = refl
    none_in n (x ∷ xs) none = absurd (omega (arith, none))

    -- has no page that isn't in use
    pub none_unused : (last : ℕ) → first_page (written pages named) ≡ 0 → (n : ℕ) → 0 < n → n < count → is_in_use (committed last final).states n ≡ true
    none_unused last none n inside below = elim (cases_Bool (is_in_use (committed last final).states n)) [
      | inl used ↦ used
      | inr not_used ↦
          let within : n < length final.states = omega (arith, below, fits, wide.long) in
          let unused : is_in_use final.states n ≡ false = sym (committed_use last final final_sound n) ∙ not_used in
          let positive : nat_lt 0 n ≡ true = grind (arith, nat_tests, inside) in
          let test : nat_lt n count ≡ true = grind (arith, nat_tests, below) in
          let state : is_used_state (get_or final.states n states.InUse) ≡ false =
          ap is_used_state (get_or_default final.states n states.InUse states.Retired within) ∙ unused in
          let there : times_in n named ≡ 1 =
          ap (times_in n) list.names ∙ times_unused n count final.states ∙ (λ i. flag (test i && (positive i && not (state i)))) in
          let no_pages : length pages ≡ 0 = no_first pages named (λ m some. (free_inside book.states m (free_then m some)).0) none in
          absurd (omega (arith, there, none_in n named (omega (arith, list.room, no_pages))))
    ]
