use Rattle.std.proofs.Common.{map}
use Rattle.opening.specs.Judging.{IsLoadingAs}
use Rattle.opening.specs.Loading.{named_as, progress_of}
use Rattle.opening.proofs.LoadingLemmas.{TakesUpTo}
use Rattle.opening.proofs.loading.take_entries.Given as goal

abbrev pub invariant-entries : goal.invariant-entries
invariant-entries g l = record {
  loading : IsLoadingAs (map named_as l.loading.names.items) l.told.value.now;
  up_to : TakesUpTo g.D.Disk.history l.entries l.entry-index (progress_of l.initial.loading l.initial.told.value.now)
      (progress_of l.loading l.told.value.now) l.initial.file l.file;
}
