use Rattle.std.proofs.Common.{◌≡◌, Bool, true, false, ℕ, refl, arith}
use Rattle.std.specs.Prelude.{Err, ◌+◌, if◌then◌else◌}
use Rattle.page.specs.History.{History, Ticks, writing}
use Rattle.page.specs.Memory.{memory_history}
use Rattle.page.specs.Replay.{replay, blank}
use Rattle.page.specs.declared.disk.DeviceFault.{DeviceFault}
use Rattle.page.proofs.ReplayLemmas.{takes, readable}
use Rattle.page.proofs.fail_once.FailDiskDisk.write.Goals as goal

pub returns-then-not-self-clause-takes : goal.returns-then-not-self-clause-takes
returns-then-not-self-clause-takes c keeps =
    let old = c.args.self.now.disk in
    let new = c.fail.new.self in
    takes {E = DeviceFault} c.args.bytes.now (Err record {}) (replay old.clock old.calls.items blank) (replay new.clock new.calls.items blank) c.args.sector tt
    (c.fail.ensures.same keeps) (readable old.clock old.calls.items c.args.sector)

not_failed : (b : Bool) (left : ℕ) → (b ≡ true → left ≡ 0) → left ≡ 1 → b ≡ false
not_failed true left spent one = absurd (omega (arith, spent refl, one))
not_failed false left spent one = refl

-- a call that was done and is answered as failed
counted : (old new : History) (b : Bool) → b ≡ false → Ticks writing old new true
    → Ticks writing
    (record old {
      failures = if b then old.failures + 1 else old.failures;
      failed_writes = if b then old.failed_writes + 1 else old.failed_writes;
    })
    (record new { failures = new.failures + 1; failed_writes = new.failed_writes + 1 })
    false
counted old new true e t = absurd cc
counted old new false e t = record {
  kept = t.kept;
  keeps = t.keeps;
  later = t.later;
  clock = t.clock;
  past = t.past;
  failures = λ keeps. omega (arith, t.failures keeps);
  failed_writes = λ keeps. omega (arith, t.failed_writes keeps);
}

pub returns-then-self-eq1-clause-time : goal.returns-then-self-eq1-clause-time
returns-then-self-eq1-clause-time c =
    counted (memory_history c.args.self.now.disk) (memory_history c.write.new.self) c.args.self.now.failed
    (not_failed c.args.self.now.failed c.args.self.now.calls_left c.args.self.now.spent c.if-self-eq1.true) c.in_ok-write.ensures.time
