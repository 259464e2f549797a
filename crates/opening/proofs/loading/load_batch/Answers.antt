use Rattle.std.proofs.Common.{Ok, Err, map, subst}
use Rattle.btree.specs.Scan.{entry_in}
use Rattle.opening.specs.FileOpening.{Judges}
use Rattle.opening.specs.Judging.{RefusesOne, TakesAll}
use Rattle.opening.specs.Loading.{progress_of}
use Rattle.opening.proofs.FileBatches.{batch_refused, batch_taken, unread_batch}
use Rattle.opening.proofs.loading.load_batch.Goals as goal

pub returns-in-Err-clause-loads : goal.returns-in-Err-clause-loads
returns-in-Err-clause-loads g c =
    let p = progress_of c.args.loading.now c.args.told.now.value.now in
    unread_batch g.D.Disk.history c.args.from.now 64 p p c.args.file.now c.next_entries.new.self c.in-Err.refusal c.reading_fault.result c.in-Err.ensures
    c.reading_fault.ensures.device c.reading_fault.ensures.kinds

pub returns-in-Err-take_entries-clause-loads : goal.returns-in-Err-take_entries-clause-loads
returns-in-Err-take_entries-clause-loads g c =
    let history = g.D.Disk.history in
    let p = progress_of c.args.loading.now c.args.told.now.value.now in
    let last = progress_of c.take_entries.new.loading c.take_entries.new.told.value.now in
    let fault = c.in-Err-take_entries.fault in
    batch_refused history c.args.from.now 64 p last c.args.file.now c.next_entries.new.self c.take_entries.new.file c.in-Ok.batch c.in-Ok.ensures fault
    (subst (λ es. Judges history (λ all (u : Unit {0}). TakesAll all p (map entry_in es) last) (λ all. RefusesOne all p (map entry_in es))
    (Err fault) c.next_entries.new.self c.take_entries.new.file) c.deref.ensures.value c.in-Err-take_entries.ensures.judges)

pub returns-in-Ok-take_entries-clause-loads : goal.returns-in-Ok-take_entries-clause-loads
returns-in-Ok-take_entries-clause-loads g c =
    let history = g.D.Disk.history in
    let p = progress_of c.args.loading.now c.args.told.now.value.now in
    let last = progress_of c.take_entries.new.loading c.take_entries.new.told.value.now in
    batch_taken history c.args.from.now 64 p last c.args.file.now c.next_entries.new.self c.take_entries.new.file c.in-Ok.batch c.in-Ok.ensures
    (subst (λ es. Judges history (λ all (u : Unit {0}). TakesAll all p (map entry_in es) last) (λ all. RefusesOne all p (map entry_in es))
    (Ok tt) c.next_entries.new.self c.take_entries.new.file) c.deref.ensures.value c.in-Ok-take_entries.ensures.judges)
