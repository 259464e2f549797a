use Rattle.std.proofs.Common.{◌≡◌, ℕ, ◌≤◌, length, sym, ap, ◌∙◌, subst, arith}
use Rattle.std.specs.Prelude.{codes}
use Rattle.std.proofs.lemmas.List.{length-map}
use Rattle.std.proofs.lemmas.Result.{err_from_is_err_and}
use Rattle.bson.specs.Tree.{pair, no_pairs}
use Rattle.command_model.specs.Insert.{documents_at}
use Rattle.database_model.specs.Insert.{inserted, run_insert}
use Rattle.database_model.specs.Refusals.{int, ok_reply}
use Rattle.replies.specs.View.{IsSendable}
use Rattle.engine.specs.View.{world}
use Rattle.engine.proofs.Growing.{inserted_differs}
use Rattle.statements.proofs.KeptLemmas.{stored_at}
use Rattle.engine.proofs.MakingLemmas.{performs_done, performs_none, performs_refused}
use Rattle.engine.proofs.PlannedLemmas.{run_inserts}
use Rattle.replies.proofs.SpelledSizes.{insert-sendable}
use Rattle.engine.proofs.engine.Engine.insert.Goals as goal

pub returns-in_err-reply-clause-performs : goal.returns-in_err-reply-clause-performs
returns-in_err-reply-clause-performs g c =
    let p = err_from_is_err_and c.from_residual.result c.from_residual.ensures.1 in
    let w = world c.args.self.now in
    let name = c.args.namespace.now in
    let ds = documents_at c.args.documents.now in
    rw (p.1, p.2)
    (performs_none g.D.Disk.history no_pairs (inserted w.collections name ds)
    (run_insert w (record { namespace = name; documents = ds })) c.args.self.now c.args.self.now c.requires.sound)

pub returns-in_err-store-clause-performs : goal.returns-in_err-store-clause-performs
returns-in_err-store-clause-performs g c =
    let p = err_from_is_err_and c.from_residual-in_err-store.result c.from_residual-in_err-store.ensures.1 in
    let w = world c.args.self.now in
    let name = c.args.namespace.now in
    let ds = documents_at c.args.documents.now in
    rw (p.1, p.2)
    (performs_refused g.D.Disk.history (pair (codes "n") (int (length ds)) no_pairs) (inserted w.collections name ds)
    (run_insert w (record { namespace = name; documents = ds })) c.args.self.now c.store.new.self
    (run_inserts w name ds) c.in_err-store.field-0.0 c.in_err-store.ensures)

pub returns-clause-performs : goal.returns-clause-performs
returns-clause-performs g c =
    let w = world c.args.self.now in
    let name = c.args.namespace.now in
    let ds = documents_at c.args.documents.now in
    let count : length c.args.documents.now ≡ length ds = sym (length-map c.args.documents.now (λ d. d.now)) in
    let said = c.in_ok-reply.ensures ∙ ap (λ (n : ℕ). ok_reply (pair (codes "n") (int n) no_pairs)) count in
    performs_done g.D.Disk.history (pair (codes "n") (int (length ds)) no_pairs) (inserted w.collections name ds)
    (run_insert w (record { namespace = name; documents = ds })) c.args.self.now c.store.new.self
    (run_inserts w name ds) c.in_ok-reply.reply said c.in_ok-store.ensures

pub returns-clause-has_changes : goal.returns-clause-has_changes
returns-clause-has_changes g c = λ k same.
    let ds = documents_at c.args.documents.now in
    let some : 1 ≤ length ds = omega (arith, c.requires.some, length-map c.args.documents.now (λ d. d.now)) in
    absurd (inserted_differs (world c.args.self.now).collections c.args.namespace.now ds (world c.store.new.self).collections some
    (stored_at (world c.args.self.now).collections c.args.namespace.now c.requires.sound.lawful.kept).0 (c.in_ok-store.ensures.as_planned k) same)

pub returns-clause-sendable : goal.returns-clause-sendable
returns-clause-sendable g c = subst IsSendable (sym c.in_ok-reply.ensures) (insert-sendable (length c.args.documents.now))
