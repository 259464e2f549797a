-- A page is read from the cache or from the disk.
use Rattle.std.proofs.Common.{◌≡◌, ℕ, List, Some, refl, sym, ◌∙◌, ap, subst, inl, inr, arith}
use Rattle.std.specs.Prelude.{Result, Ok, Err}
use Rattle.page.specs.Cache.{kept}
use Rattle.page.specs.Format.{PageModel}
use Rattle.page.specs.History.{History, KeepsWord, Sector, now, reads}
use Rattle.page.specs.declared.page_fault.PageFault.{PageFault}
use Rattle.page.specs.declared.page_cache.PageCache.{PageCache}
use Rattle.page.proofs.Moments.{reads_nothing}
use Rattle.tree_model.specs.Reading.{IsNotFull}
use Rattle.tree_model.specs.declared.pages.TreeFault.{TreeFault}
use Rattle.freelist.specs.FreeList.{IsFreeList, Part}
use Rattle.roots.specs.declared.opening.OpenFault.{OpenFault}
use Rattle.roots.specs.declared.opening.OpenFault.TheVariants as opens
use Rattle.roots.specs.declared.root.Root.{Root}
use Rattle.roots.specs.declared.store.Store.{Store}
use Rattle.roots.specs.Image.{HasList, list_in, model_at}
use Rattle.roots.specs.Store.{disk_history, durable_root}
use Rattle.roots.specs.Walk.{HasCause}
use Rattle.pager.specs.Calls.{HasReadCause, Keeps, OnlyRead, ReadsPage, tree_fault}
use Rattle.pager.specs.Kept.{Agrees, AreListed}

pub not_full : (fault : OpenFault) → IsNotFull (tree_fault fault)
not_full opens.Device = tt
not_full opens.Memory = tt
not_full opens.Damaged = tt
not_full opens.NotADatabase = tt
not_full opens.NewerFormat = tt

pub nothing_read : {D : Type 0} (history : D → History) (store : Store D) → OnlyRead history store store
nothing_read history store = record {
  root = refl;
  stopped = refl;
  reads = reads_nothing (disk_history history store);
  noted = λ k. record { rises = omega arith; paced = omega arith; counted = λ more. absurd (omega (arith, more)) };
}

-- what holds of sectors and a root holds of the same ones
pub of_same : (P : (ℕ → Sector) → Root → Type 0) (s t : ℕ → Sector) (a b : Root) → s ≡ t → a ≡ b → P s a → P t b
of_same P s t a b same is holds = subst (P t) is (subst (λ (u : ℕ → Sector). P u a) same holds)

-- the list of free pages that a root names in these sectors
abbrev pub IsListIn : List Part → (ℕ → Sector) → Root → Type 0
IsListIn parts sectors root = IsFreeList (list_in (model_at (reads sectors) root)) root.pages root.free_list root.free_count parts

-- which fits the tree that reaches these pages
abbrev pub HasListIn : List ℕ → List Part → (ℕ → Sector) → Root → Type 0
HasListIn live parts sectors root = HasList (model_at (reads sectors) root) root live parts

abbrev pub model_in : {D : Type 0} → (D → History) → Store D → ℕ → Result PageModel PageFault
model_in history store n = model_at (reads (now (disk_history history store))) (durable_root store) n

module _ {D : Type 0} (history : D → History) (old new : Store D) (only : OnlyRead history old new) where
  -- the disk holds what it held
  pub still_there : KeepsWord (disk_history history new) → (n : ℕ) → model_in history new n ≡ model_in history old n
  still_there k n =
      (λ i. model_at (reads (only.reads.same k i)) (durable_root new) n)
      ∙ ap (λ (root : Root). model_at (reads (now (disk_history history old))) root n) only.root

  pub still_agrees : (before after : PageCache) → ((n : ℕ) (found : PageModel) → kept after n ≡ Some found → kept before n ≡ Some found)
      → Agrees history old before → Agrees history new after
  still_agrees before after less agrees k n found is = still_there k n ∙ agrees (only.reads.extends.kept k) n found (less n found is)

  pub still_listed : (listed : List ℕ) → AreListed history old listed → AreListed history new listed
  still_listed listed are running k parts list =
      are (sym only.stopped ∙ running) (only.reads.extends.kept k) parts
      (of_same (IsListIn parts) (now (disk_history history new)) (now (disk_history history old)) (durable_root new) (durable_root old) (only.reads.same k)
      only.root list)

  -- no page was read
  pub read_failed : (page : ℕ) (fault : TreeFault) (before after : PageCache) → ((n : ℕ) → kept after n ≡ kept before n)
      → (KeepsWord (disk_history history new) → (found : PageModel) → model_in history old page ≡ Ok found
      → HasReadCause (disk_history history old) (disk_history history new) fault)
      → ReadsPage history page (Err fault) old new before after
  read_failed page fault before after same cause = record {
    only = only;
    value = λ agrees k. tt;
    cause = cause;
    agrees = still_agrees before after (λ n found is. sym (same n) ∙ is);
    others = λ n found ne is. sym (same n) ∙ is;
  }

  -- a page was read, and is kept
  pub read_done : (page : ℕ) (model : PageModel) (before mid after : PageCache) → ((n : ℕ) → kept mid n ≡ kept before n) → Keeps page model mid after
      → (KeepsWord (disk_history history new) → model_in history old page ≡ Ok model) → ReadsPage history page (Ok model) old new before after
  read_done page model before mid after same keeps is = record {
    only = only;
    value = λ agrees k. is k;
    cause = λ k found there. tt;
    agrees = λ agrees k n found there. elim (keeps n found there) [
      | inl earlier ↦ still_there k n ∙ agrees (only.reads.extends.kept k) n found (sym (same n) ∙ earlier)
      | inr (at, named) ↦ still_there k n ∙ ap (model_in history old) at ∙ is k ∙ ap Ok (sym named)
    ];
    others = λ n found ne there. elim (keeps n found there) [
      | inl earlier ↦ sym (same n) ∙ earlier
      | inr (at, named) ↦ absurd (ne at)
    ];
  }

-- it was kept
pub found_kept : {D : Type 0} (history : D → History) (store : Store D) (page : ℕ) (model : PageModel) (before after : PageCache)
    → kept before page ≡ Some model
    → ((n : ℕ) → kept after n ≡ kept before n) → ReadsPage history page (Ok model) store store before after
found_kept history store page model before after found same = record {
  only = nothing_read history store;
  value = λ agrees k. agrees k page model found;
  cause = λ k found there. tt;
  agrees = λ agrees k n found there. agrees k n found (sym (same n) ∙ there);
  others = λ n found ne there. sym (same n) ∙ there;
}

-- a page that is there isn't refused for what its bytes are
pub read_cause : (old new : History) (fault : OpenFault) (found : Result PageModel PageFault) (model : PageModel) → HasCause old new fault
    → (fault ≡ opens.Damaged → (other : PageModel) → found ≡ Ok other → ⊥)
    → KeepsWord new → found ≡ Ok model → HasReadCause old new (tree_fault fault)
read_cause old new opens.Device found model cause none k is = cause k
read_cause old new opens.Memory found model cause none k is = tt
read_cause old new opens.Damaged found model cause none k is = none refl model is
read_cause old new opens.NotADatabase found model cause none k is = cause
read_cause old new opens.NewerFormat found model cause none k is = cause
