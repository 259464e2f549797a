-- What goes on with an engine that only reads its disk and commits nothing.
use Rattle.std.proofs.Common.{◌≡◌, ℕ, List, ◌∷◌, refl, sym, ap, subst, ◌∙◌, arith}
use Rattle.page.specs.Crash.{ReadsOnly}
use Rattle.page.specs.History.{History}
use Rattle.page.proofs.Moments.{reads_further, reads_nothing}
use Rattle.tree_model.proofs.StoreLemmas.{counts_same, counts_trans}
use Rattle.collections.specs.Calls.{ExtendsTurn}
use Rattle.collections.specs.Versions.{StaysInTurn}
use Rattle.collections.specs.View.{pages_of}
use Rattle.collections.proofs.StandingLemmas.{stopped_same}
use Rattle.engine.specs.Continuing.{Continues}
use Rattle.engine.specs.Durable.{disk_history, failed_reads_of, file_of, failed_allocations_of, generation, is_stopped}
use Rattle.engine.specs.declared.engine.Engine.{Engine}

same_generation : {x y : ℕ} (a b : List ℕ) {s t : ℕ} → s ∷ x ∷ a ≡ t ∷ y ∷ b → x ≡ y
same_generation a b e = cc

module _ {D : Type 0} (history : D → History) where
  -- nothing was done
  pub continues_itself : (engine : Engine D) → Continues history engine engine
  continues_itself engine = record {
    reads = reads_nothing (disk_history history engine);
    running = refl;
    version = refl;
    takes = λ k. omega arith;
    counts = λ k. counts_same (pages_of history (file_of engine)) (pages_of history (file_of engine)) refl refl;
  }

  -- one after the other
  pub continues_further : (a b c : Engine D) → Continues history a b → Continues history b c → Continues history a c
  continues_further a b c first second = record {
    reads = reads_further (disk_history history a) (disk_history history b) (disk_history history c) first.reads second.reads;
    running = second.running ∙ first.running;
    version = second.version ∙ first.version;
    takes = λ k. omega (arith, first.takes (second.reads.extends.kept k), second.takes k);
    counts = λ k.
        let before = second.reads.extends.kept k in
        counts_trans (pages_of history (file_of a)) (pages_of history (file_of b)) (pages_of history (file_of c)) (first.reads.extends.failures before)
        (second.reads.extends.failures k) (first.counts before) (second.counts k);
  }

  -- pages were read, taken and retired
  pub continues_of : (old new : Engine D) → ExtendsTurn history (file_of old) (file_of new) → Continues history old new
  continues_of old new continues = record {
    reads = continues.stays.reads;
    running = stopped_same history (file_of old).pager (file_of new).pager continues.stays;
    version = same_generation _ _ continues.stays.base;
    takes = λ k. (continues.frame k).failed_allocations;
    counts = λ k. (continues.frame k).counts;
  }

  -- the disk wasn't called, and no page was asked for
  pub continues_still : (old new : Engine D) → disk_history history new ≡ disk_history history old → is_stopped new ≡ is_stopped old
      → generation new ≡ generation old → failed_allocations_of history new ≡ failed_allocations_of history old
      → failed_reads_of history new ≡ failed_reads_of history old
      → Continues history old new
  continues_still old new disk running version takes reads = record {
    reads = subst (ReadsOnly (disk_history history old)) (sym disk) (reads_nothing (disk_history history old));
    running = running;
    version = version;
    takes = λ k. omega (arith, takes);
    counts = λ k. counts_same (pages_of history (file_of old)) (pages_of history (file_of new)) reads (ap (λ (h : History). h.failures) disk);
  }

  -- a version was pinned, or a pin ended
  pub continues_pinned : (old new : Engine D) → StaysInTurn history (file_of old) (file_of new) → Continues history old new
  continues_pinned old new stays = continues_still old new stays.untouched.disk stays.untouched.stopped stays.untouched.version stays.takes
      stays.untouched.reads
