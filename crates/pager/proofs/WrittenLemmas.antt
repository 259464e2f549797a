-- The turn that a commit hands to its store: the pages of the new tree that are there, those that are written, and a list of the others.
use Rattle.std.proofs.Common.{◌≡◌, ◌≢◌, ℕ, ◌+◌, ◌<◌, ◌≤◌, Bool, true, false, List, [], ◌∷◌, ◌++◌, length, refl, sym, ◌∙◌, ap, subst, arith, inl, inr}
use Rattle.std.specs.Prelude.{◌&&◌, ◌||◌, nat_lt, is_ok, Result, Ok}
use Rattle.std.specs.List.{AllByRecursion}
use Rattle.std.proofs.lemmas.Bool.{cases_lt}
use Rattle.std.proofs.lemmas.Bool.Decides.{nat_tests}
use Rattle.page.specs.Content.{IsContent, is_of_tree}
use Rattle.page.specs.Format.{PageModel}
use Rattle.page.specs.History.{History, KeepsWord, now, reads}
use Rattle.page.specs.declared.page_cache.PageCache.{PageCache}
use Rattle.page.specs.declared.page_fault.PageFault.{PageFault}
use Rattle.tree_model.specs.Keys.{Each, Entry, times}
use Rattle.tree_model.specs.Reach.{HasMap}
use Rattle.tree_model.specs.Store.{Stays, Store, flag}
use Rattle.tree_model.proofs.OnceLemmas.{map_live}
use Rattle.tree_model.proofs.ReachLemmas.{Moves, map_moved}
use Rattle.freelist.specs.Book.{Book, is_in_use, is_pinned}
use Rattle.freelist.specs.FreeList.{IsFreeList, IsPartition, Part, first_page, named_by, pages_of, room_for, times_in, written}
use Rattle.freelist.specs.ListLaws.{used_below}
use Rattle.freelist.specs.ListWriting.{IsMade, count_with}
use Rattle.freelist.proofs.MadeLists.{partition, there as list_there, times_used}
use Rattle.freelist.proofs.Marking.{times_in-append}
use Rattle.roots.specs.declared.root.Root.{Root}
use Rattle.roots.specs.Image.{content_in, list_in, reached_by, model_at, store_of as image_store}
use Rattle.roots.specs.Listed.{list_models}
use Rattle.roots.specs.Store.{durable_root}
use Rattle.roots.specs.Turn.{IsTurn as IsRootsTurn, LieBehind, end_behind, made_or, next_root, numbers_of}
use Rattle.roots.proofs.CountLemmas.{IsInside, model_inside}
use Rattle.roots.proofs.HeldFileLemmas.{times_same}
use Rattle.roots.proofs.KeptPages.{kept_there, made_there}
use Rattle.roots.proofs.MadeLemmas.{inside_end}
use Rattle.pager.specs.Commit.{IsTurn}
use Rattle.pager.specs.Kept.{IsKept}
use Rattle.pager.specs.Order.{pages_at}
use Rattle.pager.specs.Planning.{next_generation, pages_with}
use Rattle.pager.specs.State.{State}
use Rattle.pager.specs.Turn.{IsBegun}
use Rattle.pager.specs.View.{pager_history, models_of, store_of}
use Rattle.pager.specs.Writing.{IsAmong}
use Rattle.pager.proofs.BookLemmas.{flag_most, flag_some, kept_use, lost_use, made_below, one_time}
use Rattle.pager.proofs.CapacityLemmas.{has_times}
use Rattle.pager.proofs.ListLemmas.{made_none}
use Rattle.pager.proofs.ListedLemmas.{all_free, free_inside, free_unused, holds_listed, models_of as each_model}
use Rattle.pager.proofs.MemberLemmas.{all_among, all_filter, among_filter, behind_among, member, more_times, times_append, times_reverse}
use Rattle.pager.proofs.MergeLemmas.{all_merged, all_parts, among_first}
use Rattle.pager.proofs.OrderLemmas.{all_at, found_among, in_order}
use Rattle.pager.proofs.PlanLemmas.{all, all_inside, all_lie, all_models, count_is, fits, free_then, planned, planned_long, tree}
use Rattle.pager.proofs.ReadLemmas.{HasListIn}
use Rattle.pager.proofs.TreeLemmas.{IsOfTree, map_pages}
use Rattle.pager.proofs.TurnLemmas.{made_apart, times_once, used_now, used_with}

both_less : (a b c : Bool) → flag (a && (b && c)) ≤ flag c
both_less true true c = omega arith
both_less true false c = omega arith
both_less false b c = omega arith

live_part : (a b : Bool) → (a && b) ≡ true → a ≡ true
live_part true b is = refl
live_part false b is = absurd cc

module _ {D : Type 0} {listed places : List ℕ} (history : D → History) (p start : State D) (stays : Stays (store_of history start) (store_of history p))
    (word : KeepsWord (pager_history history p)) (live : List ℕ) (before : List Entry) (begun : IsBegun history start live before) (cache : PageCache)
    (so : IsKept history p.store cache p.made p.book listed places) (root : ℕ) (reached : List ℕ) (after : List Entry)
    (turn : IsTurn history start p root live reached after) where
  abbrev gone : List ℕ
  gone = p.retired ++ listed

  abbrev mid : Book
  mid = planned history p.store cache p.made gone p.book so

  abbrev those : List PageModel
  those = tree history p.store cache p.made gone p.book so

  abbrev version : ℕ
  version = (durable_root p.store).generation

  abbrev test : PageModel → Bool
  test model = is_of_tree model.content && (is_in_use mid.states model.page || is_pinned mid.pins version)

  account : (n : ℕ) → times n reached + times n p.retired ≡ times n live + times n (numbers_of p.made)
  account n = omega (arith, turn.account n, times_reverse n p.retired, times_reverse n (numbers_of p.made))

  now_used : (n : ℕ) → n < length p.book.states → times n live + times n listed + times n (numbers_of p.made) ≡ flag (is_in_use p.book.states n)
  now_used n within = used_now history p start stays word live before begun so.booked listed so.listed n within

  once : (n : ℕ) → times n live + times n (numbers_of p.made) ≤ 1
  once n = times_once history p start stays word live before begun so.booked listed so.listed n

  -- once all is retired that goes, the pages of the new tree are in use
  pub tree_use : (n : ℕ) → n < length p.book.states → times n reached ≡ flag (is_in_use mid.states n)
  tree_use n within = elim (cases_lt 0 (times n gone)) [
    | inl some ↦ omega (
      arith,
      some,
      times_append n p.retired listed,
      account n,
      now_used n within,
      flag_most (is_in_use p.book.states n),
      ap flag (lost_use version gone n p.book some),
    )
    | inr none ↦ omega (
      arith,
      none,
      times_append n p.retired listed,
      account n,
      now_used n within,
      ap flag (kept_use version gone n p.book (omega (arith, none))),
    )
  ]

  module _ (pages named : List ℕ) (final : Book) (list : IsMade (pages_with (durable_root p.store) those) pages named mid final) where
    abbrev written_all : List PageModel
    written_all = all history p.store cache p.made gone p.book so pages named final list

    abbrev models : List PageModel
    models = list_models (next_generation (durable_root p.store)) (written pages named)

    abbrev next : Root
    next = next_root (durable_root p.store) written_all root (first_page (written pages named)) (length named)

    abbrev image : ℕ → List ℕ
    image = reads (now (pager_history history p))

    abbrev after_models : ℕ → Result PageModel PageFault
    after_models j = made_or written_all j (model_at image next j)

    abbrev after_store : Store
    after_store = image_store after_models

    lies : LieBehind 0 written_all
    lies = all_lie history p.store cache p.made gone p.book so pages named final list

    -- the list takes no page of the tree
    not_reached : (n : ℕ) → 1 ≤ times n pages → times n reached ≡ 0
    not_reached n some =
        let free = all_free pages mid final list.takes n some in
        let within = (free_inside mid.states n free).1 in
        omega (
          arith,
          tree_use n (omega (arith, within, planned_long history p.store cache p.made gone p.book so)),
          ap flag (free_unused mid.states n free),
        )

    moved_page : (n : ℕ) → 1 ≤ times n reached → IsOfTree (store_of history p) n → Moves (store_of history p) after_store n
    moved_page n some whole content at =
        let there : is_ok (models_of history p n) ≡ true = live_part (is_ok (models_of history p n)) _ at.live in
        elim (member p.made n) [
          | inl none ↦
              let other : models_of history p n ≡ model_at image (durable_root p.store) n = made_none p.made n (model_at image (durable_root p.store) n) none in
              let none_written : AllByRecursion (λ (m : PageModel). m.page ≢ n) written_all =
              all_merged (λ (m : PageModel). m.page ≢ n) those models
              (all_filter (λ (m : PageModel). m.page ≢ n) test (pages_at p.made places)
              (all_at (λ (m : PageModel). m.page ≢ n) p.made places so.order.inside none))
              (each_model (λ (m : PageModel). m.page ≢ n) (next_generation (durable_root p.store)) pages named
              (λ m is taken same. omega (arith, some, not_reached m.page taken, ap (λ (k : ℕ). times k reached) same))) in
              kept_there image (durable_root p.store) written_all root (first_page (written pages named)) (length named) n content none_written
              (record { number = at.number; live = ap is_ok (sym other) ∙ there; holds = ap content_in (sym other) ∙ at.holds })
          | inr r ↦
              let is : models_of history p n ≡ Ok r.model = r.there (model_at image (durable_root p.store) n) in
              let within = made_below p.made p.book so.booked n r.count in
              let stays_used : is_in_use mid.states n ≡ true = flag_some (is_in_use mid.states n) (omega (arith, some, tree_use n within)) in
              let fits_tree : is_of_tree r.model.content ≡ true = ap (λ (found : Result PageModel PageFault). is_of_tree (content_in found)) (sym is) ∙ whole in
              let passes : test r.model ≡ true = (λ i. fits_tree i && ((ap (is_in_use mid.states) r.is ∙ stays_used) i || is_pinned mid.pins version)) in
              let among : IsAmong r.model those =
              among_filter test (pages_at p.made places) r.model passes (in_order p.made places so.order r.model r.among) in
              let found : after_models n ≡ Ok r.model =
              found_among 0 written_all r.model n (model_at image next n) lies (among_first those models r.model among) r.is in
              record { number = at.number; live = ap is_ok found; holds = ap content_in found ∙ ap content_in (sym is) ∙ at.holds }
        ]

    moved_pages : (some : List ℕ) → Each (IsOfTree (store_of history p)) some → ((n : ℕ) → times n some ≤ times n reached)
        → Each (Moves (store_of history p) after_store) some
    moved_pages [] whole less = tt
    moved_pages (n ∷ rest) whole less = (
      moved_page n (omega (arith, less n, one_time n n rest refl)) whole.0,
      moved_pages rest whole.1 (λ m. omega (arith, less m, more_times m n rest)),
    )

    map_after : HasMap after_store root reached after
    map_after = map_moved (store_of history p) after_store root reached after
        (moved_pages reached (map_pages (store_of history p) root reached after turn.holds) (λ n. omega arith)) turn.holds

    -- ---- the list

    abbrev count : ℕ
    count = count_with (pages_with (durable_root p.store) those) pages

    pages_are : next.pages ≡ count
    pages_are = count_is history p.store cache p.made gone p.book so pages named final list

    holds_list : IsFreeList (list_in after_models) next.pages next.free_list next.free_count (written pages named)
    holds_list =
        subst (λ (n : ℕ). IsFreeList (list_in after_models) n (first_page (written pages named)) (length named) (written pages named)) (sym pages_are)
        (list_there (pages_with (durable_root p.store) those) pages named mid final list (list_in after_models)
        (holds_listed after_models (next_generation (durable_root p.store)) pages named
        (all_parts (λ (m : PageModel). after_models m.page ≡ Ok m) those models (made_there (λ m. model_at image next m) 0 written_all lies)).1))

    -- what the tree reaches are pages of the file
    reached_inside : (n : ℕ) → 1 ≤ times n reached → IsInside next.pages n
    reached_inside n some =
        let ok : is_ok (after_models n) ≡ true =
        has_times (λ m. is_ok (after_models m) ≡ true) n reached (map_live after_store root reached after map_after) some in
        elim (member written_all n) [
          | inl none ↦ model_inside image next n (ap is_ok (sym (made_none written_all n (model_at image next n) none)) ∙ ok)
          | inr r ↦
              let below : r.model.page < end_behind 1 written_all =
              all_among (λ (m : PageModel). m.page < end_behind 1 written_all) written_all r.model (inside_end written_all 0 1 lies) r.among in
              subst (IsInside next.pages) r.is (behind_among 0 written_all r.model lies r.among, omega (arith, below))
        ]

    fits_book : count ≤ length p.book.states
    fits_book =
        omega (arith, fits history p.store cache p.made gone p.book so pages named final list, planned_long history p.store cache p.made gone p.book so)

    -- so they are those in use that a list leaves out
    same_times : (n : ℕ) → times_in n reached ≡ times_in n (used_below count mid.states)
    same_times n = elim (cases_lt 0 (times n reached)) [
      | inl some ↦
          let inside = reached_inside n (omega (arith, some)) in
          let below : n < count = omega (arith, inside.1, pages_are) in
          let positive : nat_lt 0 n ≡ true = grind (arith, nat_tests, inside.0) in
          let test_below : nat_lt n count ≡ true = grind (arith, nat_tests, below) in
          let used : times_in n (used_below count mid.states) ≡ flag (is_in_use mid.states n) =
          times_used n count mid.states ∙ (λ i. flag (test_below i && (positive i && is_in_use mid.states n))) in
          omega (arith, times_same n reached, used, tree_use n (omega (arith, below, fits_book)))
      | inr none ↦ omega (arith, times_same n reached, none, times_used n count mid.states, none_used n (omega (arith, none)))
    ]
      where
        none_used : (n : ℕ) → times n reached ≡ 0 → flag (nat_lt n count && (nat_lt 0 n && is_in_use mid.states n)) ≡ 0
        none_used n none = elim (cases_lt n count) [
          | inl below ↦
              let unused : flag (is_in_use mid.states n) ≡ 0 = omega (arith, none, tree_use n (omega (arith, below, fits_book))) in
              omega (arith, unused, both_less (nat_lt n count) (nat_lt 0 n) (is_in_use mid.states n))
          | inr past ↦
              let test_past : nat_lt n count ≡ false = grind (arith, nat_tests, past) in
              ap (λ (b : Bool). flag (b && (nat_lt 0 n && is_in_use mid.states n))) test_past
        ]

    fills : IsPartition next.pages reached (written pages named)
    fills n =
        let rest = pages_of (written pages named) ++ named_by (written pages named) in
        omega (
          arith,
          partition (pages_with (durable_root p.store) those) pages named mid final list
              (fits history p.store cache p.made gone p.book so pages named final list) n,
          times_in-append n reached rest,
          times_in-append n (used_below count mid.states) rest,
          same_times n,
          ap (λ (c : ℕ). room_for c n) pages_are,
        )

    -- ---- the whole

    free_pages : (parts : List Part) → HasListIn live parts (now (pager_history history p)) (durable_root p.store)
        → AllByRecursion (λ (m : PageModel). times m.page (reached_by live parts) ≡ 0) written_all
    free_pages parts has =
        all_merged (λ (m : PageModel). times m.page (reached_by live parts) ≡ 0) those models
        (all_filter (λ (m : PageModel). times m.page (reached_by live parts) ≡ 0) test (pages_at p.made places)
        (all_at (λ (m : PageModel). times m.page (reached_by live parts) ≡ 0) p.made places so.order.inside
        (made_apart history p start stays word live before begun so.booked parts has)))
        (each_model (λ (m : PageModel). times m.page (reached_by live parts) ≡ 0) (next_generation (durable_root p.store)) pages named (λ m is taken.
        let free = free_then history p.store cache p.made gone p.book so pages named final list m.page taken in
        omega (
          arith,
          used_with history p start stays word live before begun so.booked parts has m.page (free_inside p.book.states m.page free).1,
          ap flag (free_unused p.book.states m.page free),
        )))

    pub roots_turn : AllByRecursion (λ (m : PageModel). IsContent m.content) those
        → IsRootsTurn (pager_history history p) (durable_root p.store) live written_all next reached after
    roots_turn content = record {
      ascending = lies;
      inside = all_inside history p.store cache p.made gone p.book so pages named final list;
      models = all_models history p.store cache p.made gone p.book so pages named final list content;
      free = λ _ parts has. free_pages parts has;
      holds = λ _. record {
        map = map_after;
        once = λ n. omega (arith, account n, once n);
        listed = (written pages named, record { list = holds_list; all = λ some. fills });
      };
    }
