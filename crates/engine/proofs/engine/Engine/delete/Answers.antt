use Rattle.std.proofs.Common.{◌-◌, ◌^◌, min, List, Ok, Err, ap, sym, subst, ◌∙◌}
use Rattle.std.proofs.lemmas.Result.{err_from_is_err_and}
use Rattle.command_model.specs.Delete.{Delete}
use Rattle.entry_model.specs.State.{Collection}
use Rattle.database_model.specs.Delete.{run_delete}
use Rattle.engine.specs.Durable.{file_of}
use Rattle.engine.specs.Removing.{IsTaken, deleted}
use Rattle.replies.specs.View.{IsSendable}
use Rattle.engine.specs.View.{world}
use Rattle.engine.specs.Writing.{planned_or}
use Rattle.engine.proofs.LookingLemmas.{collections_same, performs_memory, performs_refused}
use Rattle.asked_documents.proofs.ReadingLemmas.{word_before}
use Rattle.engine.proofs.MakingLemmas.{makes_behind}
use Rattle.engine.proofs.RemovingLemmas.{count_taken, delete_done, delete_refused}
use Rattle.replies.proofs.SpelledSizes.{insert-sendable}
use Rattle.engine.proofs.TakenLemmas.{nothing_taken}
use Rattle.engine.proofs.engine.Engine.delete.Goals as goal

pub returns-in_err-taken-clause-performs : goal.returns-in_err-taken-clause-performs
returns-in_err-taken-clause-performs g c =
    let old = c.args.self.now in
    let asked : Delete = record { namespace = c.args.namespace.now; deletions = c.args.deletions.now } in
    let p = err_from_is_err_and c.from_residual.result c.from_residual.ensures.1 in
    rw (p.1, p.2)
    (performs_refused g.D.Disk.history old c.taken.new.self
    (run_delete (world old) asked) c.in_err-taken.field-0.0 c.in_err-taken.ensures.reads c.in_err-taken.ensures.answers).performs

pub returns-in_err-reply-clause-performs : goal.returns-in_err-reply-clause-performs
returns-in_err-reply-clause-performs g c =
    let old = c.args.self.now in
    let asked : Delete = record { namespace = c.args.namespace.now; deletions = c.args.deletions.now } in
    let p = err_from_is_err_and c.from_residual-in_err-reply.result c.from_residual-in_err-reply.ensures.1 in
    rw p.1 (performs_memory g.D.Disk.history old c.taken.new.self (run_delete (world old) asked) p.0 p.2 c.in_ok-taken.ensures.reads).performs

pub remove-requires-clause-sound : goal.remove-requires-clause-sound
remove-requires-clause-sound g c = c.in_ok-taken.ensures.reads.sound

pub remove-requires-clause-taken : goal.remove-requires-clause-taken
remove-requires-clause-taken g c =
    λ k. subst (λ (cs : List Collection). IsTaken cs c.args.namespace.now c.args.deletions.now c.in_ok-taken.taken)
    (sym (collections_same g.D.Disk.history c.args.self.now c.taken.new.self c.in_ok-taken.ensures.reads)) (c.in_ok-taken.ensures.answers k)

pub returns-in_err-remove-clause-performs : goal.returns-in_err-remove-clause-performs
returns-in_err-remove-clause-performs g c =
    let old = c.args.self.now in
    let name = c.args.namespace.now in
    let ds = c.args.deletions.now in
    let e = c.in_err-remove.field-0.0 in
    let p = err_from_is_err_and c.from_residual-in_err-remove.result c.from_residual-in_err-remove.ensures.1 in
    rw (p.1, p.2)
    (delete_refused g.D.Disk.history name ds old c.remove.new.self e
    (makes_behind g.D.Disk.history (λ cs. Ok (deleted cs name ds)) old c.taken.new.self c.remove.new.self c.in_ok-taken.ensures.reads
    (Err e) c.in_err-remove.ensures.makes))

pub returns-in_err-remove-clause-has_changes : goal.returns-in_err-remove-clause-has_changes
returns-in_err-remove-clause-has_changes g c = λ k same. c.in_err-remove.ensures.makes.refused ∙ c.in_ok-taken.ensures.reads.changes

pub returns-clause-performs : goal.returns-clause-performs
returns-clause-performs g c =
    let history = g.D.Disk.history in
    let old = c.args.self.now in
    let mid = c.taken.new.self in
    let new = c.remove.new.self in
    let name = c.args.namespace.now in
    let ds = c.args.deletions.now in
    let taken = c.in_ok-taken.taken in
    let makes = c.in_ok-remove.ensures.makes in
    delete_done history name ds old new c.len.result c.in_ok-reply.reply c.in_ok-reply.ensures
    (λ k. c.len.ensures ∙ taken.removed.ok.0
    ∙ count_taken (world old).collections name ds taken (c.in_ok-taken.ensures.answers (word_before history (file_of mid) (file_of new) makes.continues k)))
    (makes_behind history (λ cs. Ok (deleted cs name ds)) old mid new c.in_ok-taken.ensures.reads (Ok tt) makes)

pub returns-clause-has_changes : goal.returns-clause-has_changes
returns-clause-has_changes g c = λ k same.
    let history = g.D.Disk.history in
    let old = c.args.self.now in
    let mid = c.taken.new.self in
    let new = c.remove.new.self in
    let name = c.args.namespace.now in
    let ds = c.args.deletions.now in
    let now = (world old).collections in
    let reads = c.in_ok-taken.ensures.reads in
    let makes = makes_behind history (λ cs. Ok (deleted cs name ds)) old mid new reads (Ok tt) c.in_ok-remove.ensures.makes in
    let is = c.in_ok-taken.ensures.answers (word_before history (file_of mid) (file_of new) c.in_ok-remove.ensures.makes.continues k) in
    c.in_ok-remove.ensures.has_changes (is.removed ∙ nothing_taken name ds now (ap (planned_or now) (makes.as_planned k) ∙ same)) ∙ reads.changes

pub returns-clause-sendable : goal.returns-clause-sendable
returns-clause-sendable g c = subst IsSendable (sym c.in_ok-reply.ensures) (insert-sendable (min c.len.result (2 ^ 31 - 1)))
