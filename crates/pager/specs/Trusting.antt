-- A pager over a disk whose word counts only where something is true.
use Rattle.std.specs.Prelude.{Bool}
use Rattle.trusted_disk.specs.declared.disk.TrustedDisk.{TrustedDisk}
use Rattle.roots.specs.Trusting.{trusting_store}
use Rattle.pager.specs.State.{State}

-- the same pager, over the same disk
abbrev pub trusting_pager : {D : Type 0} → Bool → State D → State (TrustedDisk D)
trusting_pager b p = record {
  store = trusting_store b p.store;
  made = p.made;
  retired = p.retired;
  book = p.book;
}
