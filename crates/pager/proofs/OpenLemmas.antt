-- What opening leaves.
use Rattle.std.proofs.Common.{◌≡◌, ℕ, zero, suc, ◌+◌, ◌<◌, ◌≤◌, max, min, false, List, [], ◌∷◌, length, set, replicate, refl, sym, ◌∙◌, ap, subst, arith, inl}
use Rattle.std.proofs.Common.{inr, Some, None}
use Rattle.std.specs.Global.{Vec}
use Rattle.std.specs.Prelude.{Ok}
use Rattle.std.proofs.lemmas.Bool.{cases_eq}
use Rattle.std.proofs.lemmas.List.{get_or-set_other, get_or-set_same, length-replicate, length-set}
use Rattle.page.specs.Cache.{kept}
use Rattle.page.specs.Format.{PageModel}
use Rattle.page.specs.History.{History, Sector, KeepsWord, IsImage, now, reads}
use Rattle.page.specs.Crash.{ReadsOnly}
use Rattle.page.specs.declared.page_cache.PageCache.{PageCache}
use Rattle.page.proofs.Moments.{goes_further, leaves_further, leaves_now, reads_moments}
use Rattle.page.proofs.TwoFacts.{reads_synced}
use Rattle.tree_model.specs.Keys.{Entry, times}
use Rattle.tree_model.specs.Reach.{AreOnce}
use Rattle.tree_model.specs.Store.{flag}
use Rattle.freelist.specs.Book.{Book, is_in_use, is_used_state, opened, with_used}
use Rattle.freelist.specs.declared.states.PageState.{PageState}
use Rattle.freelist.specs.declared.states.PageState.TheVariants as states
use Rattle.freelist.proofs.ListedBooks.{length-opened}
use Rattle.roots.specs.declared.root.Root.{Root}
use Rattle.roots.specs.declared.store.Store.{Store}
use Rattle.roots.specs.Image.{HasList, HoldsMap, OpensAs, reached_by, model_at}
use Rattle.roots.specs.Opening.{IsStoreOpened as IsStoreOpened}
use Rattle.roots.specs.Store.{IsCommitted, disk_history, durable_root, failed_reads}
use Rattle.roots.specs.Walk.{FindsFree}
use Rattle.roots.proofs.CountLemmas.{reached_once, room_most}
use Rattle.pager.specs.Kept.{AreListed, IsBookFor, IsKept}
use Rattle.pager.specs.Opening.{IsPagerOpened}
use Rattle.pager.specs.Turn.{IsBegun}
use Rattle.pager.proofs.BookLemmas.{no_time, one_time, others_of}
use Rattle.pager.proofs.OrderLemmas.{order_none}
use Rattle.pager.proofs.ReadLemmas.{HasListIn, IsListIn, of_same}

none_used : (count n : ℕ) → is_in_use (replicate count states.Free) n ≡ false
none_used zero n = refl
none_used (suc count) zero = refl
none_used (suc count) (suc n) = none_used count n

used_all : (in_use : List ℕ) (pages : List PageState) (n : ℕ) → n < length pages → flag (is_in_use pages n) + times n in_use ≤ 1
    → flag (is_in_use (with_used in_use pages) n) ≡ flag (is_in_use pages n) + times n in_use
used_all [] pages n within once = omega arith
used_all (p ∷ rest) pages n within once = elim (cases_eq n p) [
  | inl is ↦
      let here : flag (is_in_use (set pages p states.InUse) n) ≡ 1 =
      ap (λ (k : ℕ). flag (is_in_use (set pages p states.InUse) k)) is
      ∙ ap (λ (s : PageState). flag (is_used_state s)) (get_or-set_same pages p states.InUse states.Retired (omega (arith, within, is))) in
      let one = one_time n p rest is in
      omega (
        arith,
        used_all rest (set pages p states.InUse) n (omega (arith, within, length-set pages p states.InUse)) (omega (arith, here, one, once)),
        here,
        one,
        once,
      )
  | inr ne ↦
      let same : flag (is_in_use (set pages p states.InUse) n) ≡ flag (is_in_use pages n) =
      ap (λ (s : PageState). flag (is_used_state s)) (get_or-set_other pages p n states.InUse states.Retired ne) in
      let none = no_time n p rest ne in
      omega (
        arith,
        used_all rest (set pages p states.InUse) n (omega (arith, within, length-set pages p states.InUse)) (omega (arith, same, none, once)),
        same,
        none,
      )
]

opened_used : (live : List ℕ) (count generation : ℕ) → AreOnce live → (n : ℕ) → n < length (opened live count generation).states
    → times n live ≡ flag (is_in_use (opened live count generation).states n)
opened_used live count generation once n within =
    let low : n < length (replicate count states.Free) = omega (arith, within, length-opened live count generation, length-replicate count states.Free) in
    let none : flag (is_in_use (replicate count states.Free) n) ≡ 0 = ap flag (none_used count n) in
    omega (arith, used_all live (replicate count states.Free) n low (omega (arith, none, once n)), none)

module _ {D : Type 0} (history : D → History) (disk : D) (mid new : Store D) (found : Book × Vec ℕ) (limit : ℕ) (few : limit ≤ 1048576)
    (first : IsStoreOpened history disk mid)
    (only : ReadsOnly (disk_history history mid) (disk_history history new)) (finds : FindsFree history limit (Ok found) mid new) where
  abbrev book : Book
  book = found.0

  booked : IsBookFor [] book
  booked = record {
    sound = finds.some.sound;
    turn = finds.some.turn;
    limit = omega (arith, finds.some.count, few, first.known.pages);
    count = omega (arith, finds.some.failed_allocations);
  }

  pub limit_opened : (asked : ℕ) → limit ≡ min asked 1048576 → length book.states ≡ max (min asked 1048576) (durable_root new).pages
  limit_opened asked is =
      let most : length book.states ≡ max limit (durable_root new).pages = omega
      (arith, finds.some.count, first.known.tree, ap (λ (r : Root). r.pages) finds.root) in
      most ∙ ap (λ (n : ℕ). max n (durable_root new).pages) is

  -- entries that the disk's root has when it is opened are committed in the store
  committed_then : (live : List ℕ) (entries : List Entry) → HoldsMap (model_at (reads (now (history disk))) (durable_root mid)) (durable_root mid) live entries
      → IsCommitted history mid live entries
  committed_then live entries holds = first.committed live entries (λ _. holds)

  -- a list that the root names was its list when the book was made
  list_then : KeepsWord (disk_history history new) → (P : (ℕ → Sector) → Root → Type 0) → P (now (disk_history history new)) (durable_root new)
      → P (now (disk_history history mid)) (durable_root mid)
  list_then k P holds =
      of_same P (now (disk_history history new)) (now (disk_history history mid)) (durable_root new) (durable_root mid) (only.same k) finds.root holds

  reads_mid : KeepsWord (disk_history history new) → reads (now (disk_history history mid)) ≡ reads (now (history disk))
  reads_mid k = reads_synced (now (history disk)) (now (disk_history history mid)) (first.only.syncs (only.extends.kept k))

  -- the pages beside the book are those of the root's list
  listed_opened : AreListed history new found.1.items
  listed_opened running k parts list = finds.listed k parts (list_then k (IsListIn parts) list)

  pub kept_opened : (cache : PageCache) (made : List PageModel) (places : List ℕ) → made ≡ [] → places ≡ [] → ((n : ℕ) → kept cache n ≡ None)
      → IsKept history new cache made book found.1.items places
  kept_opened cache made places is empty none = subst (λ (ps : List ℕ). IsKept history new cache made book found.1.items ps) (sym empty)
      (subst (λ (m : List PageModel). IsKept history new cache m book found.1.items []) (sym is) (record {
        cached = λ k n found there. let never : Some found ≡ None = sym there ∙ none n in absurd cc;
        order = order_none;
        each = tt;
        booked = booked;
        listed = listed_opened;
        wide = omega (arith, finds.some.count, ap (λ (r : Root). r.pages) finds.root);
      }))

  begins : (live : List ℕ) (entries : List Entry)
      → (KeepsWord (disk_history history new) → HoldsMap (model_at (reads (now (history disk))) (durable_root new)) (durable_root new) live entries)
      → IsBegun history (record { store = new; made = []; retired = []; book = book }) live entries
  begins live entries holds = record {
    made = refl;
    retired = refl;
    turn = booked.turn;
    committed = λ k. finds.committed live entries (committed_then live entries (holds_then k));
    in_use = λ k parts has.
        let root = durable_root mid in
        let image = reads (now (disk_history history mid)) in
        let reached = reached_by live parts in
        let has_then : HasList (model_at image root) root live parts = list_then k (HasListIn live parts) has in
        let tree = subst (λ (read : ℕ → List ℕ). HoldsMap (model_at read root) root live entries) (sym (reads_mid k)) (holds_then k) in
        let is : book ≡ opened reached (max limit root.pages) root.generation =
        (finds.book k live entries (committed_then live entries (holds_then k)) parts has_then).0 in
        let once : AreOnce reached = λ n.
        let most = reached_once image root reached
        (record { pages = live; parts = parts; entries = entries; holds = record { tree = tree; list = has_then }; are = refl }) n in
        omega (arith, most, room_most root.pages n) in
        record {
          used = λ n within. subst (λ (b : Book). n < length b.states → times n reached ≡ flag (is_in_use b.states n)) (sym is)
              (opened_used reached (max limit root.pages) root.generation once n) within;
          others = others_of book booked.sound;
        };
  }
    where
      holds_then : KeepsWord (disk_history history new) → HoldsMap (model_at (reads (now (history disk))) (durable_root mid)) (durable_root mid) live entries
      holds_then k = subst (λ (r : Root). HoldsMap (model_at (reads (now (history disk))) r) r live entries) finds.root (holds k)

  pub opened_so : (made : List PageModel) (retired : List ℕ) → made ≡ [] → retired ≡ []
      → (KeepsWord (disk_history history new) → (disk_history history new).failures ≡ (disk_history history mid).failures)
      → IsPagerOpened history disk (record { store = new; made = made; retired = retired; book = book })
  opened_so made retired none empty clear =
      let h0 = history disk in
      let h1 = disk_history history mid in
      let h2 = disk_history history new in
      subst (IsPagerOpened history disk) (λ i. record { store = new; made = sym none i; retired = sym empty i; book = book }) (record {
        running = finds.stopped ∙ first.running;
        made = refl;
        retired = refl;
        pins = finds.some.pins;
        no_failed_allocations = finds.some.failed_allocations;
        no_failed_reads = unfailed;
        extends = goes_further h0 h1 h2 first.extends only.extends;
        opens = λ k. subst (OpensAs (reads (now h0))) (sym finds.root) (first.opens (only.extends.kept k));
        begun = begins;
        alone = λ entries stands k image is. first.alone entries stands (only.extends.kept k) image
            (subst (λ (s : ℕ → Sector). IsImage s image) (only.same k) is);
        any_moment = λ readable.
            leaves_further h0 h1 h2 (IsImage (now h0)) only.extends (first.any_moment readable)
            (λ k image left. leaves_now h0 h1 (IsImage (now h0)) first.extends (first.any_moment readable) (only.extends.kept k) image
            (reads_moments h1 h2 only k image left));
      })
    where
      unfailed : KeepsWord (disk_history history new) → failed_reads new ≡ 0
      unfailed k = omega (arith, (finds.noted k).paced, first.uncounted, clear k)
