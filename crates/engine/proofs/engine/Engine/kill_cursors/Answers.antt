use Rattle.std.proofs.Common.{◌≤◌, length, Ok, refl, sym, ap, subst, ◌∙◌, arith}
use Rattle.std.specs.Prelude.{not}
use Rattle.std.specs.List.{filter}
use Rattle.command_model.specs.KillCursors.{KillCursors}
use Rattle.cursors.specs.EndingLaws.{others_to_table}
use Rattle.cursors.specs.Held.{cursors_of, table_of}
use Rattle.cursors.specs.declared.ending.Ends.{Ends}
use Rattle.cursors.specs.declared.ending.Ends.TheVariants as cases
use Rattle.database_model.specs.World.{Cursor}
use Rattle.database_model.specs.KillCursors.{ToldApart, no_ids, has_cursor, is_asked}
use Rattle.replies.specs.View.{with_ok, IsSendable}
use Rattle.engine.specs.View.{world_of, world}
use Rattle.engine.proofs.Running.{run_kill_cursors-is}
use Rattle.replies.proofs.SpelledSizes.{kill-sendable, told_few}
use Rattle.engine.proofs.KeepingPins.{pins_as_before}
use Rattle.engine.proofs.engine.Engine.kill_cursors.Goals as goal

pub returns-clause-runs : goal.returns-clause-runs
returns-clause-runs g c =
    let w = world c.args.self.now in
    let asked : KillCursors = record { namespace = c.args.namespace.now; cursors = c.args.ids.now } in
    let left = filter (λ (x : Cursor). not (is_asked c.args.connection c.args.namespace.now c.args.ids.now x)) w.cursors in
    let asks : Ends = cases.Asked c.args.connection c.args.namespace c.args.ids in
    let ended = ap table_of c.end_all.ensures.left ∙ others_to_table asks c.args.self.now.cursors in
    ap with_ok (run_kill_cursors-is w c.args.connection asked left c.in_ok-told.told refl c.in_ok-told.ensures)
    ∙ (λ i. Ok (world_of c.args.self.now.told.value (sym ended i), sym c.in_ok-reply.ensures i))

pub returns-clause-sendable : goal.returns-clause-sendable
returns-clause-sendable g c =
    let few = told_few (has_cursor c.args.connection c.args.namespace.now (cursors_of c.args.self.now.cursors)) no_ids c.args.ids.now 1000
    (omega (arith, c.requires)) in
    let told = subst (λ (t : ToldApart). (length t.killed ≤ 1000) × (length t.not_found ≤ 1000)) (sym c.in_ok-told.ensures) few in
    subst IsSendable (sym c.in_ok-reply.ensures) (kill-sendable c.in_ok-told.told told.0 told.1)

pub returns-in_err-told-clause-file : goal.returns-in_err-told-clause-file
returns-in_err-told-clause-file g c =
    pins_as_before c.args.self.now.is_changed g.D.Disk.history c.args.self.now.file c.args.self.now.cursors c.args.self.now.cursors refl

pub returns-in_err-reply-clause-file : goal.returns-in_err-reply-clause-file
returns-in_err-reply-clause-file g c =
    pins_as_before c.args.self.now.is_changed g.D.Disk.history c.args.self.now.file c.args.self.now.cursors c.args.self.now.cursors refl

pub returns-clause-file : goal.returns-clause-file
returns-clause-file g c = c.end_all.ensures.releases c.args.self.now.is_changed
