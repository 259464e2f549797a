-- What is known of a pager whose turn began with committed entries.
use Rattle.std.proofs.Common.{◌≡◌, ℕ, ◌+◌, ◌<◌, ◌≤◌, Bool, true, false, List, [], ◌∷◌, ◌++◌, length, take, drop, map, get_or, refl, sym, ◌∙◌, ap}
use Rattle.std.proofs.Common.{subst, arith, inl}
use Rattle.std.proofs.Common.{inr}
use Rattle.std.specs.List.{AllByRecursion}
use Rattle.std.proofs.lemmas.Bool.{cases_lt}
use Rattle.std.proofs.lemmas.List.{length-set}
use Rattle.std.proofs.Math.Seq.{drop-append_seam, take-append_seam}
use Rattle.page.specs.Format.{PageModel}
use Rattle.page.specs.History.{History, Sector, KeepsWord, now, reads}
use Rattle.page.specs.Crash.{IsDurable}
use Rattle.tree_model.specs.Keys.{Entry, times}
use Rattle.tree_model.specs.Store.{Stays, flag}
use Rattle.freelist.specs.Book.{Book, CanRewind, is_in_use, rewind}
use Rattle.freelist.specs.FreeList.{Part, pages_of}
use Rattle.freelist.specs.Coding.{number_state, number_state-state_number, state_number}
use Rattle.freelist.specs.declared.states.PageState.{PageState}
use Rattle.freelist.specs.declared.states.PageState.TheVariants as states
use Rattle.freelist.specs.declared.turns.Change.{Change}
use Rattle.freelist.specs.declared.turns.Retirement.{Retirement}
use Rattle.roots.specs.declared.root.Root.{Root}
use Rattle.roots.specs.Image.{HoldsMap, OpensAs, reached_by, model_at}
use Rattle.roots.specs.Store.{IsCommitted, durable_root, is_stopped}
use Rattle.roots.specs.Turn.{numbers_of}
use Rattle.pager.specs.Kept.{AreListed, IsBookFor, takes_of}
use Rattle.pager.specs.State.{State}
use Rattle.pager.specs.Turn.{AreInUse, IsBegun}
use Rattle.pager.specs.View.{base_of, counted, pager_history, store_of}
use Rattle.pager.proofs.BookLemmas.{flag_most, made_below, taken_use}
use Rattle.pager.proofs.ListLemmas.{all_weaker}
use Rattle.pager.proofs.MemberLemmas.{each_counted, times_append}
use Rattle.pager.proofs.ReadLemmas.{HasListIn, of_same}

-- ---- numbers that stand for states

states_back : (pages : List PageState) → map number_state (map state_number pages) ≡ pages
states_back [] = refl
states_back (s ∷ pages) = (λ i. number_state-state_number s i ∷ states_back pages i)

same_states : (one other : List PageState) → map state_number one ≡ map state_number other → one ≡ other
same_states one other same = sym (states_back one) ∙ ap (map number_state) same ∙ states_back other

length_rewind : (made : List PageModel) (pages : List PageState) → length (rewind (takes_of made) pages) ≡ length pages
length_rewind [] pages = refl
length_rewind (m ∷ made) pages = length-set (rewind (takes_of made) pages) m.page states.Free ∙ length_rewind made pages

-- a flag that is one number, by whether the store has stopped
running_by : (one other : Bool) → flag one ≡ flag other → other ≡ false → one ≡ false
running_by true true same is = is
running_by true false same is = absurd (omega (arith, same))
running_by false other same is = refl

-- ---- what the numbers of a turn's beginning say

pub same_root : {D : Type 0} (p start : State D) → base_of p ≡ base_of start → durable_root p.store ≡ durable_root start.store
same_root p start same =
    let one : (durable_root p.store).generation ≡ (durable_root start.store).generation = ap (λ (numbers : List ℕ). get_or numbers 1 0) same in
    let two : (durable_root p.store).tree ≡ (durable_root start.store).tree = ap (λ (numbers : List ℕ). get_or numbers 2 0) same in
    let three : (durable_root p.store).pages ≡ (durable_root start.store).pages = ap (λ (numbers : List ℕ). get_or numbers 3 0) same in
    let four : (durable_root p.store).free_list ≡ (durable_root start.store).free_list = ap (λ (numbers : List ℕ). get_or numbers 4 0) same in
    let five : (durable_root p.store).free_count ≡ (durable_root start.store).free_count = ap (λ (numbers : List ℕ). get_or numbers 5 0) same in
    (λ i. record { generation = one i; tree = two i; pages = three i; free_list = four i; free_count = five i })

-- two lists behind their counts, each with a rest
counted_same : (xs ys rest other : List ℕ) → counted xs rest ≡ counted ys other → (xs ≡ ys) × (rest ≡ other)
counted_same xs ys rest other same =
    let long : length xs ≡ length ys = ap (λ (numbers : List ℕ). get_or numbers 0 0) same in
    let joined : xs ++ rest ≡ ys ++ other = ap (drop 1) same in (
      sym (take-append_seam xs rest) ∙ (λ i. take (long i) (joined i)) ∙ take-append_seam ys other,
      sym (drop-append_seam xs rest) ∙ (λ i. drop (long i) (joined i)) ∙ drop-append_seam ys other,
    )

retirements_same : (one other : List Retirement) → map (λ (r : Retirement). r.page) one ≡ map (λ (r : Retirement). r.page) other
    → map (λ (r : Retirement). r.version) one ≡ map (λ (r : Retirement). r.version) other → one ≡ other
retirements_same [] [] pages versions = refl
retirements_same [] (s ∷ other) pages versions = absurd (omega (arith, ap length pages))
retirements_same (r ∷ one) [] pages versions = absurd (omega (arith, ap length pages))
retirements_same (r ∷ one) (s ∷ other) pages versions =
    let page : r.page ≡ s.page = ap (λ (numbers : List ℕ). get_or numbers 0 0) pages in
    let version : r.version ≡ s.version = ap (λ (numbers : List ℕ). get_or numbers 0 0) versions in
    (λ i. record { page = page i; version = version i } ∷ retirements_same one other (ap (drop 1) pages) (ap (drop 1) versions) i)

-- What the numbers say of the book.
pub record IsSameBook (one other : Book) : Type 0 where
  pub pins : one.pins ≡ other.pins
  pub waiting : one.waiting ≡ other.waiting
  pub states : rewind one.turn one.states ≡ rewind other.turn other.states

pub same_book : {D : Type 0} (p start : State D) → base_of p ≡ base_of start → IsSameBook p.book start.book
same_book p start same =
    let pins = counted_same p.book.pins start.book.pins _ _ (ap (drop 6) same) in
    let pages = counted_same (map (λ (r : Retirement). r.page) p.book.waiting) (map (λ (r : Retirement). r.page) start.book.waiting) _ _ pins.1 in
    let versions = counted_same (map (λ (r : Retirement). r.version) p.book.waiting) (map (λ (r : Retirement). r.version) start.book.waiting) _ _ pages.1 in
    record {
      pins = pins.0;
      waiting = retirements_same p.book.waiting start.book.waiting pages.0 versions.0;
      states = same_states (rewind p.book.turn p.book.states) (rewind start.book.turn start.book.states) versions.1;
    }

pub same_beginning : {D : Type 0} (p start : State D) → base_of p ≡ base_of start → rewind p.book.turn p.book.states ≡ rewind start.book.turn start.book.states
same_beginning p start same = (same_book p start same).states

module _ {D : Type 0} (history : D → History) (p start : State D) (stays : Stays (store_of history start) (store_of history p))
    (word : KeepsWord (pager_history history p)) (live : List ℕ) (before : List Entry) (begun : IsBegun history start live before) where
  sectors_same : now (pager_history history p) ≡ now (pager_history history start)
  sectors_same = stays.reads.same word

  word_then : KeepsWord (pager_history history start)
  word_then = stays.reads.extends.kept word

  root_same : durable_root p.store ≡ durable_root start.store
  root_same = same_root p start stays.base

  -- a list beside the tree was its list when the turn began
  listed_then : (parts : List Part) → HasListIn live parts (now (pager_history history p)) (durable_root p.store)
      → HasListIn live parts (now (pager_history history start)) (durable_root start.store)
  listed_then parts has =
      of_same (HasListIn live parts) (now (pager_history history p)) (now (pager_history history start)) (durable_root p.store) (durable_root start.store)
      sectors_same root_same has

  -- in the book just the pages that the root reaches were in use
  pub in_use_then : (parts : List Part) → HasListIn live parts (now (pager_history history p)) (durable_root p.store)
      → AreInUse (reached_by live parts) start.book
  in_use_then parts has = begun.in_use word_then parts (listed_then parts has)

  -- the entries that the turn began with are committed still
  pub committed_still : IsCommitted history p.store live before
  committed_still =
      let then_committed = begun.committed word_then in
      record {
        running = running_by (is_stopped p.store) (is_stopped start.store) (ap (λ (numbers : List ℕ). get_or numbers 0 0) stays.base) then_committed.running;
        keeps = record {
          opens = λ k. subst (λ (s : ℕ → Sector). OpensAs (reads s) (durable_root p.store)) (sym sectors_same)
              (subst (λ (r : Root). OpensAs (reads (now (pager_history history start))) r) (sym root_same) (then_committed.keeps.opens word_then));
          holds = λ k. subst (λ (s : ℕ → Sector). HoldsMap (model_at (reads s) (durable_root p.store)) (durable_root p.store) live before) (sym sectors_same)
              (subst (λ (r : Root). HoldsMap (model_at (reads (now (pager_history history start))) r) r live before) (sym root_same)
              (then_committed.keeps.holds word_then));
          durable = λ k parts has j kept. subst (λ (s : ℕ → Sector). IsDurable (s j)) (sym sectors_same)
              (then_committed.keeps.durable word_then parts (listed_then parts has) j kept);
        };
      }

module _ {D : Type 0} (history : D → History) (p start : State D) (stays : Stays (store_of history start) (store_of history p))
    (word : KeepsWord (pager_history history p)) (live : List ℕ) (before : List Entry) (begun : IsBegun history start live before)
    (booked : IsBookFor p.made p.book) where
  -- what each page was when the turn began
  pub states_then : rewind (takes_of p.made) p.book.states ≡ start.book.states
  states_then =
      ap (λ (turn : List Change). rewind turn p.book.states) (sym booked.turn)
      ∙ same_beginning p start stays.base
      ∙ ap (λ (turn : List Change). rewind turn start.book.states) begun.turn

  pub length_then : length start.book.states ≡ length p.book.states
  length_then = ap length (sym states_then) ∙ length_rewind p.made p.book.states

  can : CanRewind (takes_of p.made) p.book.states
  can = subst (λ (turn : List Change). CanRewind turn p.book.states) booked.turn booked.sound.undoable

  pub used_with : (parts : List Part) → HasListIn live parts (now (pager_history history p)) (durable_root p.store)
      → (n : ℕ) → n < length p.book.states → times n (reached_by live parts) + times n (numbers_of p.made) ≡ flag (is_in_use p.book.states n)
  used_with parts has n within =
      let then_used : times n (reached_by live parts) ≡ flag (is_in_use start.book.states n) =
      (in_use_then history p start stays word live before begun parts has).used n (omega (arith, within, length_then)) in
      let same : flag (is_in_use (rewind (takes_of p.made) p.book.states) n) ≡ flag (is_in_use start.book.states n) =
      ap (λ (pages : List PageState). flag (is_in_use pages n)) states_then in
      omega (arith, then_used, same, taken_use p.made p.book.states can n)

  pub made_apart : (parts : List Part) → HasListIn live parts (now (pager_history history p)) (durable_root p.store)
      → AllByRecursion (λ (m : PageModel). times m.page (reached_by live parts) ≡ 0) p.made
  made_apart parts has = all_weaker (λ (m : PageModel). 1 ≤ times m.page (numbers_of p.made)) (λ (m : PageModel). times m.page (reached_by live parts) ≡ 0)
      (λ m some. omega (arith, some, used_with parts has m.page (made_below p.made p.book booked m.page some), flag_most (is_in_use p.book.states m.page)))
      p.made
      (each_counted p.made)

  -- ---- with the own pages of the list that the root names

  module _ (listed : List ℕ) (are : AreListed history p.store listed) where
    pub used_now : (n : ℕ) → n < length p.book.states
        → times n live + times n listed + times n (numbers_of p.made) ≡ flag (is_in_use p.book.states n)
    used_now n within =
        let still = committed_still history p start stays word live before begun in
        let parts : List Part = (still.keeps.holds word).listed.0 in
        let has = (still.keeps.holds word).listed.1 in
        omega (arith, used_with parts has n within, times_append n live (pages_of parts), ap (times n) (are still.running word parts has.list))

    pub times_once : (n : ℕ) → times n live + times n (numbers_of p.made) ≤ 1
    times_once n = elim (cases_lt n (length p.book.states)) [
      | inl within ↦ omega (arith, used_now n within, flag_most (is_in_use p.book.states n))
      | inr past ↦ elim (cases_lt 0 (times n (numbers_of p.made))) [
        | inl some ↦ absurd (omega (arith, past, made_below p.made p.book booked n (omega (arith, some))))
        | inr none ↦ omega (arith, none, ((committed_still history p start stays word live before begun).keeps.holds word).once n)
      ]
    ]
