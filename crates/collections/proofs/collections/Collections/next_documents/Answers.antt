use Rattle.std.proofs.Common.{◌≡◌, ◌⊎◌, ◌<◌, List, [], sym, subst, Vec}
use Rattle.std.specs.Global.{Global}
use Rattle.std.proofs.lemmas.Result.{err_from_is_err_and}
use Rattle.bson.specs.Tree.{Pairs}
use Rattle.btree.specs.declared.scanning.Entry.{Entry}
use Rattle.collections.specs.Lookups.{AreEach, IsOfDocument}
use Rattle.collections.specs.Walk.{HasNext, IsWalk, StepsOn}
use Rattle.collections.proofs.ReadingLemmas.{asked_refused}
use Rattle.collections.proofs.WalkLemmas.{ends_made, made_of}
use Rattle.collections.proofs.collections.Collections.next_documents.Goals as goal

pub returns-in_err-batch-clause-reads : goal.returns-in_err-batch-clause-reads
returns-in_err-batch-clause-reads g c =
    let p = err_from_is_err_and c.from_residual.result c.from_residual.ensures.1 in
    rw (p.1, p.2)
    (asked_refused g.D.Disk.history (λ now rest. IsWalk now c.args.walk.now rest)
    (λ now rest (batch : Vec Pairs Global). StepsOn c.args.limit c.next_batch.new.walk now rest batch.items) c.args.self.now c.next_batch.new.self
    (λ now rest (batch : Vec Entry Global). HasNext c.args.limit c.next_batch.new.walk now rest batch.items) c.in_err-batch.field-0.0
    c.in_err-batch.ensures.reads)

pub returns-clause-reads : goal.returns-clause-reads
returns-clause-reads g c =
    made_of g.D.Disk.history c.args.self.now c.next_batch.new.self c.args.walk.now c.next_batch.new.walk c.args.limit c.in_ok-batch.batch c.documents_of.result
    c.in_ok-batch.ensures.reads
    (λ ds each. c.documents_of.ensures.reads ds (subst (λ es. AreEach IsOfDocument es ds) (sym c.deref.ensures.value) each))

pub returns-clause-ends : goal.returns-clause-ends
returns-clause-ends g c =
    ends_made c.deref.result.now c.documents_of.result c.documents_of.ensures.count
    (subst (λ (es : List Entry). (es ≡ []) ⊎ (c.next_batch.new.walk.left < c.args.walk.now.left)) (sym c.deref.ensures.value) c.in_ok-batch.ensures.ends)
