use Rattle.opening.specs.Loading.{progress_of}
use Rattle.opening.proofs.LoadingLemmas.{entries_end, entries_failed, entries_step}
use Rattle.opening.proofs.loading.take_entries.Goals as goal

pub returns-in-Err-clause-judges : goal.returns-in-Err-clause-judges
returns-in-Err-clause-judges g c =
    let first = progress_of c.args.loading.now c.args.told.now.value.now in
    let p = progress_of c.entries.loading c.entries.told.value.now in
    entries_failed g.D.Disk.history c.args.entries.now c.entries.entry-index first p c.args.file.now c.entries.file c.entries.invariant.up_to
    c.entry-item.result c.entries-test.true c.entry-item.is
    (progress_of c.take_entry.new.loading c.take_entry.new.told.value.now) c.take_entry.new.file c.in-Err.fault _ c.in-Err.ensures.judges

pub entries-preserved : goal.entries-preserved
entries-preserved g c =
    let first = progress_of c.args.loading.now c.args.told.now.value.now in
    let p = progress_of c.entries.loading c.entries.told.value.now in
    record {
      loading = c.in-Ok.ensures.loading;
      up_to = entries_step g.D.Disk.history c.args.entries.now c.entries.entry-index first p c.args.file.now c.entries.file c.entries.invariant.up_to
          c.entry-item.result c.entries-test.true c.entry-item.is
          (progress_of c.take_entry.new.loading c.take_entry.new.told.value.now) c.take_entry.new.file c.in-Ok.ensures.judges;
    }

pub returns-clause-judges : goal.returns-clause-judges
returns-clause-judges g c =
    let first = progress_of c.args.loading.now c.args.told.now.value.now in
    let p = progress_of c.entries.loading c.entries.told.value.now in
    entries_end g.D.Disk.history c.args.entries.now c.entries.entry-index first p c.args.file.now c.entries.file c.entries.invariant.up_to c.entries-test.false
