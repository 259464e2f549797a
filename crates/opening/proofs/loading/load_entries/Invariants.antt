use Rattle.std.proofs.Common.{map}
use Rattle.opening.specs.Judging.{IsLoadingAs}
use Rattle.opening.specs.Loading.{named_as, progress_of}
use Rattle.opening.proofs.FileBatches.{LoadsUpTo}
use Rattle.opening.proofs.loading.load_entries.Given as goal

abbrev pub invariant-batches : goal.invariant-batches
invariant-batches g l = record {
  loading : IsLoadingAs (map named_as l.loading.names.items) l.told.value.now;
  up_to : LoadsUpTo g.D.Disk.history l.from.items (progress_of l.loading l.told.value.now) l.initial.file l.file;
}
