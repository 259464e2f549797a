-- What a walk from the root finds, and what reads leave.
use Rattle.std.proofs.Common.{◌≡◌, ◌≢◌, ℕ, ◌-◌, ◌≤◌, inl, inr, List, [], ◌∷◌, ◌++◌, refl, sym, ◌∙◌, ap, subst, arith}
use Rattle.std.specs.Prelude.{None, Result, Ok, Err, MatchResult}
use Rattle.page.specs.History.{History, Sector, KeepsWord, now, reads}
use Rattle.page.specs.Crash.{ReadsOnly, IsDurable}
use Rattle.page.specs.Format.{PageModel}
use Rattle.page.specs.ImageView.{model_of}
use Rattle.page.specs.declared.page_image.PageImage.{PageImage}
use Rattle.tree_model.specs.Calls.{IsPart}
use Rattle.tree_model.specs.Keys.{Entry, times}
use Rattle.tree_model.specs.Tree.{Body, entries_of, pages_of}
use Rattle.tree_model.proofs.GetLemmas.{root_part}
use Rattle.tree_model.specs.Reach.{AreOnce}
use Rattle.roots.specs.declared.opening.OpenFault.{OpenFault}
use Rattle.roots.specs.declared.opening.OpenFault.TheVariants as faults
use Rattle.roots.specs.declared.root.Root.{Root}
use Rattle.roots.specs.declared.store.Store.{Store}
use Rattle.roots.specs.declared.reachable_pages.Reached.{Reached}
use Rattle.roots.specs.Found.{HasFoundPart, ReachesDepth}
use Rattle.roots.specs.Image.{HasList, HoldsMap, HoldsTree, OpensAs, model_at}
use Rattle.roots.specs.Listed.{OnlyReads}
use Rattle.roots.specs.Store.{CountsFailed, CountsFault, IsCommitted, Keeps}
use Rattle.roots.specs.Walk.{CanReach, IsMarked, Looks, Reaches, ReadsPageModel, pages_in, pages_so_far}

-- from the root on
pub reached_all : (h : History) (root : Root) (old new : Reached) (result : Result ℕ OpenFault)
    → ((d : ℕ) (body : Body d) → IsPart (pages_in h root) root.tree 0 d [] None body → CanReach root.pages old (root.tree ∷ pages_of d body)
    → ReachesDepth d (root.tree ∷ pages_of d body) (pages_so_far old) (pages_so_far new) result)
    → IsMarked root.pages old → pages_so_far old ≡ [] → root.tree ≢ 0 → (pages : List ℕ) (entries : List Entry)
    → HoldsTree (model_at (reads (now h)) root) root pages entries → Reaches pages old new result
reached_all h root old new result walks marked none some pages entries holds = elim holds.map [
  | inl (zero_is, _) ↦ absurd (some zero_is)
  | inr has ↦
      let once : AreOnce (root.tree ∷ pages_of has.d has.body) = subst AreOnce has.pages_are holds.once in
      let can : CanReach root.pages old
      (root.tree ∷ pages_of has.d has.body) = record { marked = marked; apart = λ n. omega (arith, once n, ap (times n) none) } in
      subst (λ (l : List ℕ). Reaches l old new result) (sym has.pages_are)
      (reached has.d (root.tree ∷ pages_of has.d has.body) result (walks has.d has.body (root_part (pages_in h root) root.tree has.d has.body has.tree) can))
]
  where
    reached : (d : ℕ) (pages : List ℕ) (result : Result ℕ OpenFault) → ReachesDepth d pages (pages_so_far old) (pages_so_far new) result
        → Reaches pages old new result
    reached d pages (Ok n) there = there.1
    reached d pages (Err e) ne = ne

-- and what was found is the root's tree
pub found_all : (h : History) (root : Root) (d : ℕ) (pages before : List ℕ) → before ≡ [] → d ≤ 31 - 0 → AreOnce pages
    → HasFoundPart (pages_in h root) root.tree d [] None before pages
    → (entries : List Entry) × HoldsTree (model_at (reads (now h)) root) root pages entries
found_all h root d pages before none depth once f = (
  entries_of d f.body,
  record {
    map = inr (record {
      d = d;
      body = f.body;
      tree = record { at = f.at; shown = f.shown; whole = f.whole; sound = f.sound; depth = omega (arith, depth) };
      pages_are = f.reached ∙ ap (λ (l : List ℕ). l ++ root.tree ∷ pages_of d f.body) none;
      entries_are = refl;
    });
    once = once;
  },
)

pub none_found : (root : Root) (pages : List ℕ) (image : ℕ → List ℕ) → root.tree ≡ 0 → pages ≡ []
    → (entries : List Entry) × HoldsTree (model_at image root) root pages entries
none_found root pages image none is = ([], record { map = inl (none, (is, refl)); once = λ n. omega (arith, ap (times n) is) })

pub reached_from_none : (old new : Reached) (pages : List ℕ) → pages_so_far old ≡ [] → pages_so_far new ≡ pages_so_far old ++ pages → pages_so_far new ≡ pages
reached_from_none old new pages none is = is ∙ ap (λ (l : List ℕ). l ++ pages) none

pub no_pages : (root : Root) (found pages : List ℕ) (entries : List Entry) (image : ℕ → List ℕ) → root.tree ≡ 0 → found ≡ []
    → HoldsTree (model_at image root) root pages entries → found ≡ pages
no_pages root found pages entries image none is holds = elim holds.map [
  | inl (_, (empty, _)) ↦ is ∙ sym empty
  | inr has ↦ absurd (omega (arith, none, has.tree.at.number))
]

-- a fault that isn't one of the pages
pub match_failed : {X : Type 0} (P : X → Type 0) (result : Result X OpenFault) (e : OpenFault) → result ≡ Err e → e ≢ faults.Damaged
    → MatchResult result P (λ fault. fault ≢ faults.Damaged)
match_failed P result e is ne = subst (λ r. MatchResult r P (λ fault. fault ≢ faults.Damaged)) (sym is) ne

-- a fault, and that none of these files is there
pub file_failed : {X : Type 0} (P : X → Type 0) (N : Type 0) (result : Result X OpenFault) (e : OpenFault) → result ≡ Err e → (e ≡ faults.Damaged → N)
    → MatchResult result P (λ fault. fault ≡ faults.Damaged → N)
file_failed P N result e is none = subst (λ r. MatchResult r P (λ fault. fault ≡ faults.Damaged → N)) (sym is) none

-- ---- what only read

pub still_kept : (h0 h1 : History) (root : Root) (live : List ℕ) (entries : List Entry) → ReadsOnly h0 h1 → Keeps h0 root live entries
    → Keeps h1 root live entries
still_kept h0 h1 root live entries only keeps = record {
  opens = λ k. subst (λ (s : ℕ → Sector). OpensAs (reads s) root) (sym (only.same k)) (keeps.opens (only.extends.kept k));
  holds = λ k. subst (λ (s : ℕ → Sector). HoldsMap (model_at (reads s) root) root live entries) (sym (only.same k)) (keeps.holds (only.extends.kept k));
  durable = λ k parts has j kept.
      let had = subst (λ (s : ℕ → Sector). HasList (model_at (reads s) root) root live parts) (only.same k) has in
      subst (λ (s : ℕ → Sector). IsDurable (s j)) (sym (only.same k)) (keeps.durable (only.extends.kept k) parts had j kept);
}

-- what only read leaves what is committed
pub committed_still : {D : Type 0} (history : D → History) (old new : Store D) → OnlyReads history old new → (live : List ℕ) (entries : List Entry)
    → IsCommitted history old live entries → IsCommitted history new live entries
committed_still history old new only live entries committed = record {
  running = only.stopped ∙ committed.running;
  keeps = subst (λ (r : Root). Keeps (history new.disk) r live entries) (sym only.root)
      (still_kept (history old.disk) (history new.disk) old.root live entries only.disk committed.keeps);
}

-- ---- the count of failed reads

-- the count behind what was read
abbrev pub IsCounted : {X : Type 0} → Result X OpenFault → ℕ → ℕ → Type 0
IsCounted (Ok x) old new = new ≡ old
IsCounted (Err fault) old new = CountsFault fault old new

module _ {D : Type 0} (history : D → History) (old : Store D) (disk : D) (count : ℕ) (keeps : KeepsWord (history disk)) where
  abbrev Counts : Type 0
  Counts = CountsFailed history old (record old { disk = disk; failed_reads = count })

  none_failed : count ≡ old.failed_reads → (history disk).failures ≡ (history old.disk).failures → Counts
  none_failed same clear = record {
    rises = omega (arith, same);
    paced = omega (arith, same, clear);
    counted = λ up. absurd (omega (arith, up, clear));
  }

  pub counts_read : {X : Type 0} (result : Result X OpenFault) → Looks result (history old.disk) (history disk)
      → IsCounted result old.failed_reads count → Counts
  counts_read (Ok x) looks same = none_failed same (looks.clear (λ is. absurd cc) keeps)
  counts_read (Err faults.Device) looks more =
      let failed = looks.cause keeps in
      elim more [
        | inl one ↦ record { rises = omega (arith, one); paced = omega (arith, one, failed); counted = λ up. inl (omega (arith, one)) }
        | inr full ↦ record { rises = omega (arith, full.0); paced = omega (arith, full.0, failed); counted = λ up. inr full.1 }
      ]
  counts_read (Err faults.Memory) looks same = none_failed same (looks.clear (λ is. absurd cc) keeps)
  counts_read (Err faults.NotADatabase) looks same = absurd looks.cause
  counts_read (Err faults.Damaged) looks same = none_failed same (looks.clear (λ is. absurd cc) keeps)
  counts_read (Err faults.NewerFormat) looks same = absurd looks.cause

pub only_read : {D X : Type 0} (history : D → History) (result : Result X OpenFault) (old : Store D) (disk : D) (count : ℕ)
    → Looks result (history old.disk) (history disk) → IsCounted result old.failed_reads count
    → OnlyReads history old (record old { disk = disk; failed_reads = count })
only_read history result old disk count looks counted =
    record { disk = looks.reads; root = refl; stopped = refl; noted = λ keeps. counts_read history old disk count keeps result looks counted }

-- a page was read
pub page_read : {D : Type 0} (history : D → History) (page : ℕ) (result : Result PageImage OpenFault) (old : Store D) (disk : D) (count : ℕ)
    → Looks result (history old.disk) (history disk) → IsCounted result old.failed_reads count
    → (KeepsWord (history disk) → MatchResult result (λ image. model_at (reads (now (history old.disk))) old.root page ≡ Ok (model_of image))
    (λ fault. fault ≡ faults.Damaged → (found : PageModel) → model_at (reads (now (history old.disk))) old.root page ≡ Ok found → ⊥))
    → ReadsPageModel history page result old (record old { disk = disk; failed_reads = count })
page_read history page result old disk count looks counted model = record {
  root = refl;
  stopped = refl;
  committed = λ live entries committed. record
      { running = committed.running; keeps = still_kept (history old.disk) (history disk) old.root live entries looks.reads committed.keeps };
  model = model;
  noted = λ keeps. counts_read history old disk count keeps result looks counted;
}
