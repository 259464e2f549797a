use Rattle.std.proofs.Common.{sym, ap, subst, ◌∙◌, Ok, Err}
use Rattle.tree_model.specs.declared.pages.TreeFault.{TreeFault}
use Rattle.tree_model.specs.declared.pages.TreeFault.TheVariants as faults
use Rattle.tree_model.specs.Reading.{IsNotFull}
use Rattle.pager.specs.Calls.{OnlyRead, ReadsPage, tree_fault}
use Rattle.pager.proofs.ReadLemmas.{found_kept, not_full, read_cause, read_done, read_failed, model_in}
use Rattle.pager.proofs.cached_pages.read_page.Goals as goal

pub returns-in-Some-clause-reads : goal.returns-in-Some-clause-reads
returns-in-Some-clause-reads g c =
    found_kept g.D.Disk.history c.args.store.now c.args.page c.in-Some.shared c.args.cache.now c.get.new.self c.in-Some.ensures.found c.get.ensures.same

pub returns-in-Err-clause-reads : goal.returns-in-Err-clause-reads
returns-in-Err-clause-reads g c =
    let history = g.D.Disk.history in
    let old = c.args.store.now in
    let new = c.read.new.self in
    let only : OnlyRead history old new = record {
      root = c.read.ensures.reads.root;
      stopped = c.read.ensures.reads.stopped;
      reads = c.read.ensures.looks.reads;
      noted = c.read.ensures.reads.noted;
    } in
    subst (λ (f : TreeFault). ReadsPage history c.args.page (Err f) old new c.args.cache.now c.get.new.self) (sym c.tree_fault.ensures)
    (read_failed history old new only c.args.page (tree_fault c.in-Err.fault) c.args.cache.now c.get.new.self c.get.ensures.same
    (λ k found is. read_cause (history old.disk) (history new.disk) c.in-Err.fault (model_in history old c.args.page) found c.in-Err.ensures.looks.cause
    (c.in-Err.ensures.reads.model k) k is))

pub returns-in_default-new-clause-reads : goal.returns-in_default-new-clause-reads
returns-in_default-new-clause-reads g c =
    let history = g.D.Disk.history in
    let old = c.args.store.now in
    let new = c.read.new.self in
    let only : OnlyRead history old new = record {
      root = c.read.ensures.reads.root;
      stopped = c.read.ensures.reads.stopped;
      reads = c.read.ensures.looks.reads;
      noted = c.read.ensures.reads.noted;
    } in
    read_failed history old new only c.args.page faults.Memory c.args.cache.now c.get.new.self c.get.ensures.same (λ k found is. tt)

pub returns-clause-reads : goal.returns-clause-reads
returns-clause-reads g c =
    let history = g.D.Disk.history in
    let old = c.args.store.now in
    let new = c.read.new.self in
    let only : OnlyRead history old new = record {
      root = c.read.ensures.reads.root;
      stopped = c.read.ensures.reads.stopped;
      reads = c.read.ensures.looks.reads;
      noted = c.read.ensures.reads.noted;
    } in
    read_done history old new only c.args.page c.in-Ok-new.shared c.args.cache.now c.get.new.self c.keep_page.new.cache c.get.ensures.same c.keep_page.ensures
    (λ k. c.in-Ok.ensures.reads.model k ∙ ap Ok (sym c.in-Ok-new.ensures))

pub returns-in-Err-clause-full : goal.returns-in-Err-clause-full
returns-in-Err-clause-full g c = subst IsNotFull (sym c.tree_fault.ensures) (not_full c.in-Err.fault)
