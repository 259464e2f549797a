-- Reads of a store, one after the other.
use Rattle.std.proofs.Common.{◌≤◌, ◌∙◌, arith, inl, inr, refl}
use Rattle.std.proofs.Math.Nat.{lt_of_le_of_lt}
use Rattle.std.proofs.lemmas.Bool.{cases_lt}
use Rattle.page.specs.History.{History}
use Rattle.page.proofs.Moments.{read_further, read_nothing, reads_further, reads_nothing}
use Rattle.roots.specs.Listed.{HasFailed, IsClear, OnlyReads}
use Rattle.roots.specs.Store.{CountsFailed, disk_history, failed_reads}
use Rattle.roots.specs.declared.store.Store.{Store}

-- ---- the count of failed reads

pub counts_none : {D : Type 0} (history : D → History) (x : Store D) → CountsFailed history x x
counts_none history x = record {
  rises = omega arith;
  paced = omega arith;
  counted = λ up. absurd (omega (arith, up));
}

pub counts_more : {D : Type 0} (history : D → History) (x y z : Store D)
    → (disk_history history x).failures ≤ (disk_history history y).failures
    → (disk_history history y).failures ≤ (disk_history history z).failures
    → CountsFailed history x y → CountsFailed history y z → CountsFailed history x z
counts_more history x y z before behind first second = record {
  rises = omega (arith, first.rises, second.rises);
  paced = omega (arith, first.paced, second.paced);
  counted = λ up.
      let there = (disk_history history y).failures in
      elim (cases_lt there (disk_history history z).failures) [
        | inl late ↦ elim (second.counted late) [
          | inl more ↦ inl (omega (arith, more, first.rises))
          | inr full ↦ inr full
        ]
        | inr early ↦ elim (first.counted (omega (arith, up, early))) [
          | inl more ↦ inl (omega (arith, more, second.rises))
          | inr full ↦ elim (cases_lt (failed_reads y) (failed_reads z)) [
            | inl more ↦ inl (omega (arith, more, first.rises))
            | inr same ↦ inr (omega (arith, full, same, second.rises))
          ]
        ]
      ];
}

-- ---- reads

pub reads_none : {D : Type 0} (history : D → History) (x : Store D) → OnlyReads history x x
reads_none history x = record {
  disk = reads_nothing (disk_history history x);
  root = refl;
  stopped = refl;
  noted = λ keeps. counts_none history x;
}

pub reads_more : {D : Type 0} (history : D → History) (x y z : Store D) → OnlyReads history x y
    → OnlyReads history y z → OnlyReads history x z
reads_more history x y z first second = record {
  disk = reads_further (disk_history history x) (disk_history history y) (disk_history history z)
      first.disk second.disk;
  root = second.root ∙ first.root;
  stopped = second.stopped ∙ first.stopped;
  noted = λ keeps.
      let mid = second.disk.extends.kept keeps in
      counts_more history x y z (first.disk.extends.failures mid)
      (second.disk.extends.failures keeps)
      (first.noted mid) (second.noted keeps);
}

pub fails_later : {D : Type 0} (history : D → History) (x y z : Store D) → OnlyReads history x y
    → HasFailed history y z → HasFailed history x z
fails_later history x y z first failed word =
    let later = failed word in
    (first.disk.extends.kept later.0, lt_of_le_of_lt (first.disk.extends.failures later.0) later.1)

pub clear_none : {D : Type 0} (history : D → History) (x : Store D) → IsClear history x x
clear_none history x = read_nothing (disk_history history x)

pub clear_more : {D : Type 0} (history : D → History) (x y z : Store D) → IsClear history x y
    → IsClear history y z → IsClear history x z
clear_more history x y z =
    read_further (disk_history history x) (disk_history history y) (disk_history history z)
