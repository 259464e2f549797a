-- A store on a disk whose word counts only where something is true.
use Rattle.std.specs.Prelude.{Bool}
use Rattle.trusted_disk.specs.Trusting.{trusting_disk}
use Rattle.trusted_disk.specs.declared.disk.TrustedDisk.{TrustedDisk}
use Rattle.roots.specs.declared.store.Store.{Store}

-- the same store, on the same disk
abbrev pub trusting_store : {D : Type 0} → Bool → Store D → Store (TrustedDisk D)
trusting_store b store = record {
  disk = trusting_disk b store.disk;
  root = store.root;
  stopped = store.stopped;
  failed_reads = store.failed_reads;
}
