-- Disks in memory that fail: each has the history of the disk inside.
use Rattle.std.specs.Prelude.{◌+◌, if◌then◌else◌}
use Rattle.page.specs.History.{History}
use Rattle.page.specs.Memory.{memory_history}
use Rattle.page.specs.declared.stop.StopDisk.{StopDisk}
use Rattle.page.specs.declared.fail_once.FailDisk.{FailDisk}

abbrev pub stop_history : StopDisk → History
stop_history d = memory_history d.disk

-- a write that landed and was answered as failed is a failure more, and a failed write more
abbrev pub fail_history : FailDisk → History
fail_history d =
    let inner = memory_history d.disk in
    record inner {
      failures = if d.failed then inner.failures + 1 else inner.failures;
      failed_writes = if d.failed then inner.failed_writes + 1 else inner.failed_writes;
    }
