use Rattle.opening.proofs.FileBatches.{file_even, file_failed}
use Rattle.opening.proofs.loading.load_file.Goals as goal

pub returns-in-Err : goal.returns-in-Err
returns-in-Err g c =
    file_failed g.D.Disk.history c.load_entries.new.loading c.load_entries.new.told.value.now c.args.file.now c.load_entries.new.file c.in-Err.fault
    c.in-Err.ensures.loads

pub returns : goal.returns
returns g c =
    file_even g.D.Disk.history c.load_entries.new.loading c.load_entries.new.told.value.now c.args.file.now c.load_entries.new.file c.in-Ok.ensures.loads
    c.in-Ok.ensures.loaded c.if-loading.false
