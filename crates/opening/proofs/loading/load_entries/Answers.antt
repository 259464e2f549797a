use Rattle.std.proofs.Common.{◌≡◌, [], map, sym, ap, subst, ◌∙◌, Ok, Err, Some, None}
use Rattle.opening.specs.FileOpening.{LoadsBatch}
use Rattle.opening.specs.Judging.{AreLoaded, Progress, listed_of}
use Rattle.opening.specs.Loading.{named_as, progress_of}
use Rattle.opening.proofs.FileBatches.{loads_end, loads_failed, loads_more, loads_none}
use Rattle.opening.proofs.TakingLemmas.{none_loaded}
use Rattle.opening.proofs.loading.load_entries.Goals as goal

pub batches-init : goal.batches-init
batches-init g c =
    let p = progress_of c.args.loading.now c.args.told.now.value.now in
    let nothing : c.args.told.now.value.now ≡ [] = ap (λ (q : Progress). q.now) c.requires.read in
    record {
      loading = record { named = ap (map named_as) c.requires.names ∙ ap listed_of (sym nothing); loaded = subst AreLoaded (sym nothing) none_loaded };
      up_to = loads_none g.D.Disk.history c.args.file.now p c.new-from.result.items c.requires.read c.new-from.ensures.items;
    }

pub returns-in-Ok-None-clause-loads : goal.returns-in-Ok-None-clause-loads
returns-in-Ok-None-clause-loads g c =
    let history = g.D.Disk.history in
    let from = c.batches.from.items in
    let p = progress_of c.batches.loading c.batches.told.value.now in
    let last = progress_of c.load_batch.new.loading c.load_batch.new.told.value.now in
    let mid = c.batches.file in
    let new = c.load_batch.new.file in
    let batch = subst (λ key. LoadsBatch history key (Ok None) p last mid new) c.deref.ensures.value
    (subst (λ o. LoadsBatch history c.deref.result.now (Ok o) p last mid new) c.in-Ok-None.field-0-is c.in-Ok-None.ensures.loads) in
    loads_end history from p c.args.file.now mid new c.batches.invariant.up_to last batch

pub returns-in-Err-clause-loads : goal.returns-in-Err-clause-loads
returns-in-Err-clause-loads g c =
    let history = g.D.Disk.history in
    let from = c.batches.from.items in
    let p = progress_of c.batches.loading c.batches.told.value.now in
    let last = progress_of c.load_batch.new.loading c.load_batch.new.told.value.now in
    let mid = c.batches.file in
    let new = c.load_batch.new.file in
    let batch = subst (λ key. LoadsBatch history key (Err c.in-Err.fault) p last mid new) c.deref.ensures.value c.in-Err.ensures.loads in
    loads_failed history from p c.args.file.now mid new c.batches.invariant.up_to c.in-Err.fault last _ batch

pub batches-preserved : goal.batches-preserved
batches-preserved g c =
    let history = g.D.Disk.history in
    let from = c.batches.from.items in
    let p = progress_of c.batches.loading c.batches.told.value.now in
    let last = progress_of c.load_batch.new.loading c.load_batch.new.told.value.now in
    let mid = c.batches.file in
    let new = c.load_batch.new.file in
    let next = c.in-Ok-Some.next in
    let batch = subst (λ key. LoadsBatch history key (Ok (Some next)) p last mid new) c.deref.ensures.value
    (subst (λ o. LoadsBatch history c.deref.result.now (Ok o) p last mid new) c.in-Ok-Some.field-0-is c.in-Ok-Some.ensures.loads) in
    record {
      loading = c.in-Ok-Some.ensures.loading;
      up_to = loads_more history from p c.args.file.now mid new c.batches.invariant.up_to next last batch;
    }
