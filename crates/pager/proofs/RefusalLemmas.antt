-- Why a disk isn't opened.
use Rattle.std.proofs.Common.{◌≡◌, ◌≢◌, ℕ, ◌<◌, List, refl, sym, ap, ◌∙◌, subst, arith}
use Rattle.std.specs.Prelude.{Ok, Err}
use Rattle.page.specs.History.{History, KeepsWord, IsImage, now, reads}
use Rattle.page.specs.Crash.{ReadsOnly}
use Rattle.page.proofs.Moments.{goes_further, leaves_further, leaves_now, reads_moments, reads_nothing}
use Rattle.tree_model.specs.Keys.{Entry}
use Rattle.roots.specs.declared.opening.OpenFault.{OpenFault}
use Rattle.roots.specs.declared.opening.OpenFault.TheVariants as faults
use Rattle.roots.specs.declared.root.Root.{Root}
use Rattle.roots.specs.declared.store.Store.{Store}
use Rattle.roots.specs.Image.{HoldsMap, StandsFor, model_at}
use Rattle.roots.specs.Opening.{IsStoreOpened as IsStoreOpened}
use Rattle.roots.specs.Store.{IsCommitted, disk_history, durable_root}
use Rattle.roots.specs.Walk.{FindsFree, HasCause}
use Rattle.pager.specs.Opening.{IsPagerRefused}

-- a fault that reading a page may give
record IsReadFault (old new : History) (fault : OpenFault) : Type 0 where
  on_device : fault ≡ faults.Device → KeepsWord new → old.failures < new.failures
  on_memory : fault ≡ faults.Memory → KeepsWord new → new.failures ≡ old.failures
  known : fault ≢ faults.NotADatabase
  old_format : fault ≢ faults.NewerFormat

-- want of memory comes only where no read failed
abbrev IsClear : History → History → OpenFault → Type 0
IsClear old new fault = fault ≡ faults.Memory → KeepsWord new → new.failures ≡ old.failures

read_fault : (old new : History) (fault : OpenFault) → HasCause old new fault → IsClear old new fault → IsReadFault old new fault
read_fault old new faults.Device cause clear = record
    { on_device = λ _. cause; on_memory = clear; known = λ is. absurd cc; old_format = λ is. absurd cc }
read_fault old new faults.Memory cause clear = record
    { on_device = λ is. absurd cc; on_memory = clear; known = λ is. absurd cc; old_format = λ is. absurd cc }
read_fault old new faults.Damaged cause clear = record
    { on_device = λ is. absurd cc; on_memory = clear; known = λ is. absurd cc; old_format = λ is. absurd cc }
read_fault old new faults.NotADatabase cause clear = absurd cause
read_fault old new faults.NewerFormat cause clear = absurd cause

-- Reads behind an opened store failed. Where a tree is committed, it isn't damaged.
module _ {D : Type 0} (history : D → History) (disk : D) (mid : Store D) (first : IsStoreOpened history disk mid) where
  committed_there : (entries : List Entry) (stands : StandsFor (reads (now (history disk))) entries) → KeepsWord (disk_history history mid)
      → IsCommitted history mid stands.pages entries
  committed_there entries stands k =
      let image = reads (now (history disk)) in
      let both : Ok stands.root ≡ Ok (durable_root mid) = sym stands.opens ∙ first.opens k in
      let same : stands.root ≡ durable_root mid = cc in
      first.committed stands.pages entries (λ _. subst (λ (r : Root). HoldsMap (model_at image r) r stands.pages entries) same stands.holds)

  refused_reading : (back : D) (fault : OpenFault) → ReadsOnly (disk_history history mid) (history back)
      → IsReadFault (disk_history history mid) (history back) fault
      → (fault ≡ faults.Damaged → KeepsWord (history back) → (live : List ℕ) (entries : List Entry) → IsCommitted history mid live entries → ⊥)
      → IsPagerRefused history disk back fault
  refused_reading back fault only read_so damaged =
      let h0 = history disk in
      let h1 = disk_history history mid in
      let h2 = history back in
      record {
        extends = goes_further h0 h1 h2 first.extends only.extends;
        any_moment = λ readable.
            leaves_further h0 h1 h2 (IsImage (now h0)) only.extends (first.any_moment readable)
            (λ k image left. leaves_now h0 h1 (IsImage (now h0)) first.extends (first.any_moment readable) (only.extends.kept k) image
            (reads_moments h1 h2 only k image left));
        damaged = λ other memory k entries stands. damaged (by_others fault other memory read_so.known read_so.old_format) k stands.pages entries
            (committed_there entries stands (only.extends.kept k));
        foreign = λ is. absurd (read_so.known is);
        later = λ is. absurd (read_so.old_format is);
        device = λ is k. omega (arith, read_so.on_device is k, first.extends.failures (only.extends.kept k));
        memory = λ is k. read_so.on_memory is k ∙ first.clear (only.extends.kept k);
      }
    where
      by_others : (f : OpenFault) → f ≢ faults.Device → f ≢ faults.Memory → f ≢ faults.NotADatabase → f ≢ faults.NewerFormat → f ≡ faults.Damaged
      by_others faults.Device a b c d = absurd (a refl)
      by_others faults.Memory a b c d = absurd (b refl)
      by_others faults.Damaged a b c d = refl
      by_others faults.NotADatabase a b c d = absurd (c refl)
      by_others faults.NewerFormat a b c d = absurd (d refl)

  -- there was no memory for the cache
  pub refused_cache : (back : D) → history back ≡ disk_history history mid → IsPagerRefused history disk back faults.Memory
  refused_cache back same =
      let h1 = disk_history history mid in
      refused_reading back faults.Memory (subst (ReadsOnly h1) (sym same) (reads_nothing h1)) (record {
        on_device = λ is. absurd cc;
        on_memory = λ _ k. ap (λ (h : History). h.failures) same;
        known = λ is. absurd cc;
        old_format = λ is. absurd cc;
      }) (λ is. absurd cc)

  -- where the free pages are to be found
  pub refused_walking : (limit : ℕ) (new : Store D) (back : D) (fault : OpenFault) → history back ≡ disk_history history new
      → ReadsOnly (disk_history history mid) (disk_history history new)
      → HasCause (disk_history history mid) (disk_history history new) fault
      → (fault ≡ faults.Memory → KeepsWord (disk_history history new) → (disk_history history new).failures ≡ (disk_history history mid).failures)
      → FindsFree history limit (Err fault) mid new → IsPagerRefused history disk back fault
  refused_walking limit new back fault same only cause clear finds =
      let h1 = disk_history history mid in
      let h2 = disk_history history new in
      refused_reading back fault (subst (ReadsOnly h1) (sym same) only)
      (subst (λ (h : History). IsReadFault h1 h fault) (sym same) (read_fault h1 h2 fault cause clear))
      (λ is k live entries committed. finds.book (subst (λ (h : History). KeepsWord h) same k) live entries committed is)
