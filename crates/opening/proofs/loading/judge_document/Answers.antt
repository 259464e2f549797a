use Rattle.std.proofs.Common.{◌≡◌, List, Bool, true, Ok, Err, map, ap, subst, ◌∙◌}
use Rattle.btree.specs.Scan.{entry_in}
use Rattle.index.specs.Definition.{Definition}
use Rattle.collections.specs.Entries.{ReadsTree}
use Rattle.collections.specs.IndexChecks.{lacks_any}
use Rattle.opening.specs.Judging.{IsFaultOf, IsIndexable, keys_among}
use Rattle.opening.specs.Loading.{named_as}
use Rattle.index.specs.View.{texts_of}
use Rattle.opening.proofs.LoadingLemmas.{keys_fault, keys_missing, keys_unread, reads_same}
use Rattle.opening.proofs.loading.judge_document.Goals as goal

pub returns-in-Err-keys_of-clause-judges : goal.returns-in-Err-keys_of-clause-judges
returns-in-Err-keys_of-clause-judges g c =
    let fault = c.in-Err-keys_of.fault in
    keys_fault g.D.Disk.history (named_as c.args.of.now)
    (entry_in c.args.entry.now) c.args.count c.args.file.now c.args.file.now c.in-Ok.found.0 c.in-Ok.ensures.0 fault
    (subst (λ (is : List Definition). IsFaultOf fault (IsIndexable is c.in-Ok.found.0 → ⊥)) c.deref.ensures.value c.in-Err-keys_of.ensures)

pub returns-in-Ok-true-clause-judges : goal.returns-in-Ok-true-clause-judges
returns-in-Ok-true-clause-judges g c =
    let history = g.D.Disk.history in
    let of = c.args.of.now in
    let found = c.in-Ok.found in
    let kss = map (λ ks. texts_of ks.items) c.in-Ok-keys_of.keys.items in
    let old = c.args.file.now in
    let new = c.lacks_any.new.self in
    let asked = subst
    (λ (b : Bool). ReadsTree history
    (λ entries found. found ≡ lacks_any of.number c.deref-4.result.now c.deref-2.result.now (map (λ ks. texts_of ks.items) c.deref-3.result.now) entries)
    (Ok b) old new) c.in-Ok-true.field-0-test c.in-Ok-true.ensures in
    let reads = reads_same history of.number c.deref-4.result.now found.1.items c.deref-2.result.now of.indexes.items
    (map (λ ks. texts_of ks.items) c.deref-3.result.now) kss (Ok true) old new c.deref-4.ensures.value c.deref-2.ensures.value
    (ap (map (λ ks. texts_of ks.items)) c.deref-3.ensures.value) asked in
    keys_missing history (named_as of) (entry_in c.args.entry.now) c.args.count old new found.0 c.in-Ok.ensures.0 found.1.items kss c.in-Ok.ensures.1
    (c.in-Ok-keys_of.ensures.1 ∙ ap (λ (is : List Definition). keys_among is found.0) c.deref.ensures.value) reads

pub returns-in-Err-lacks_any-clause-judges : goal.returns-in-Err-lacks_any-clause-judges
returns-in-Err-lacks_any-clause-judges g c =
    let history = g.D.Disk.history in
    let of = c.args.of.now in
    let found = c.in-Ok.found in
    let kss = map (λ ks. texts_of ks.items) c.in-Ok-keys_of.keys.items in
    let old = c.args.file.now in
    let new = c.lacks_any.new.self in
    let refusal = c.in-Err-lacks_any.refusal in
    let reads = reads_same history of.number c.deref-4.result.now found.1.items c.deref-2.result.now of.indexes.items
    (map (λ ks. texts_of ks.items) c.deref-3.result.now) kss (Err refusal) old new c.deref-4.ensures.value c.deref-2.ensures.value
    (ap (map (λ ks. texts_of ks.items)) c.deref-3.ensures.value) c.in-Err-lacks_any.ensures in
    keys_unread history (named_as of) (entry_in c.args.entry.now) c.args.count old new found.0 c.in-Ok.ensures.0 found.1.items kss c.in-Ok.ensures.1
    (c.in-Ok-keys_of.ensures.1
    ∙ ap (λ (is : List Definition). keys_among is found.0) c.deref.ensures.value) refusal c.reading_fault.result reads c.reading_fault.ensures.device
    c.reading_fault.ensures.kinds
