use Rattle.std.proofs.Common.{◌≡◌, Some, sym, ap, subst, ◌∙◌, rules}
use Rattle.std.specs.Prelude.{Ok, unwrap_or}
use Rattle.command_model.specs.Command as commands
use Rattle.command_model.specs.Find as finds
use Rattle.command_model.specs.GetMore as mores
use Rattle.command_model.specs.Aggregate as aggregates
use Rattle.command_model.specs.Update as updates
use Rattle.database_model.specs.Aggregate.{run_aggregate}
use Rattle.database_model.specs.Step.{run, ChangesNone}
use Rattle.database_model.specs.Find.{run_find}
use Rattle.database_model.specs.GetMore.{run_get_more}
use Rattle.commands.specs.View.{command_read, find_read, get_more_read, update_read, aggregate_read}
use Rattle.engine.specs.Laws.{NeedsNoDisk, OnlyReads}
use Rattle.engine.specs.View.{world}
use Rattle.commands.specs.declared.command.Command.{Command}
use Rattle.engine.proofs.Running.{run_find-default, run_aggregate-default}
use Rattle.engine.proofs.Sound.{performs_as, performs_told}
use Rattle.engine.proofs.engine.Engine.perform.Goals as goal

pub returns-in-GetMore-clause-reads : goal.returns-in-GetMore-clause-reads
returns-in-GetMore-clause-reads g c only =
    let w = world c.args.self.now in
    let asked : mores.GetMore = get_more_read c.in-GetMore.c in
    let spelled : run w c.args.connection (command_read c.args.command.now) ≡ run_get_more w c.args.connection asked =
    ap (λ (x : Command). run w c.args.connection (command_read x)) c.in-GetMore.is in
    let called : run_get_more w c.args.connection
    (record { id = asked.id; namespace = c.as_str-in-GetMore.result.now; batch_size = asked.batch_size })
    ≡ run_get_more w c.args.connection asked =
    λ i. run_get_more w c.args.connection
    (record { id = asked.id; namespace = c.as_str-in-GetMore.ensures.value i; batch_size = asked.batch_size }) in
    performs_as g.D.Disk.history c.args.self.now c.get_more.new.self _ _ _ _ (spelled ∙ sym called) c.spelled-in-GetMore.ensures
    c.get_more.ensures.performs

pub returns-in-GetMore-clause-performs : goal.returns-in-GetMore-clause-performs
returns-in-GetMore-clause-performs g c =
    (returns-in-GetMore-clause-reads g c (subst (λ (x : Command). OnlyReads (Ok (command_read x))) (sym c.in-GetMore.is) tt)).performs

pub returns-in-KillCursors-clause-reads : goal.returns-in-KillCursors-clause-reads
returns-in-KillCursors-clause-reads g c only =
    let old = c.args.self.now in
    let new = c.kill_cursors.new.self in
    performs_told g.D.Disk.history old new c.args.connection
    (command_read c.args.command.now) _ c.requires.sound c.requires.bounded c.kill_cursors.ensures.file c.kill_cursors.ensures.told
    c.kill_cursors.ensures.has_changes (search rules)

pub returns-in-KillCursors-clause-performs : goal.returns-in-KillCursors-clause-performs
returns-in-KillCursors-clause-performs g c =
    (returns-in-KillCursors-clause-reads g c (subst (λ (x : Command). OnlyReads (Ok (command_read x))) (sym c.in-KillCursors.is) tt)).performs

pub returns-in-Find-clause-reads : goal.returns-in-Find-clause-reads
returns-in-Find-clause-reads g c only =
    let w = world c.args.self.now in
    let asked : finds.Find = find_read c.in-Find.c in
    let spelled : run w c.args.connection (command_read c.args.command.now) ≡ run_find w c.args.connection asked =
    ap (λ (x : Command). run w c.args.connection (command_read x)) c.in-Find.is in
    let called : run_find w c.args.connection
    (record { namespace = c.as_str-in-Find.result.now; query = asked.query; batch_size = Some c.unwrap_or-most.result })
    ≡ run_find w c.args.connection (record asked { batch_size = Some (unwrap_or asked.batch_size 101) }) =
    λ i. run_find w c.args.connection
    (record { namespace = c.as_str-in-Find.ensures.value i; query = asked.query; batch_size = Some (c.unwrap_or-most.ensures i) }) in
    performs_as g.D.Disk.history c.args.self.now c.find.new.self _ _ _ _
    (spelled ∙ sym (run_find-default w c.args.connection asked) ∙ sym called) c.spelled.ensures c.find.ensures.performs

pub returns-in-Find-clause-performs : goal.returns-in-Find-clause-performs
returns-in-Find-clause-performs g c =
    (returns-in-Find-clause-reads g c (subst (λ (x : Command). OnlyReads (Ok (command_read x))) (sym c.in-Find.is) tt)).performs

pub returns-in-Aggregate-clause-reads : goal.returns-in-Aggregate-clause-reads
returns-in-Aggregate-clause-reads g c only =
    let w = world c.args.self.now in
    let asked : aggregates.Aggregate = aggregate_read c.in-Aggregate.c in
    let spelled : run w c.args.connection (command_read c.args.command.now) ≡ run_aggregate w c.args.connection asked =
    ap (λ (x : Command). run w c.args.connection (command_read x)) c.in-Aggregate.is in
    let called : run_aggregate w c.args.connection
    (record { namespace = c.as_str-in-Aggregate.result.now; pipeline = asked.pipeline; batch_size = Some c.unwrap_or-most-in-Aggregate.result })
    ≡ run_aggregate w c.args.connection (record asked { batch_size = Some (unwrap_or asked.batch_size 101) }) =
    λ i. run_aggregate w c.args.connection
    (record { namespace = c.as_str-in-Aggregate.ensures.value i; pipeline = asked.pipeline; batch_size = Some (c.unwrap_or-most-in-Aggregate.ensures i) }) in
    performs_as g.D.Disk.history c.args.self.now c.aggregate.new.self _ _ _ _
    (spelled ∙ sym (run_aggregate-default w c.args.connection asked) ∙ sym called) c.spelled-in-Aggregate.ensures c.aggregate.ensures.performs

pub returns-in-Aggregate-clause-performs : goal.returns-in-Aggregate-clause-performs
returns-in-Aggregate-clause-performs g c =
    (returns-in-Aggregate-clause-reads g c (subst (λ (x : Command). OnlyReads (Ok (command_read x))) (sym c.in-Aggregate.is) tt)).performs

pub returns-in-Update-clause-has_changes : goal.returns-in-Update-clause-has_changes
returns-in-Update-clause-has_changes g c = λ k unchanged none.
    let w = world c.args.self.now in
    let asked : updates.Update = update_read c.in-Update.c in
    let called : updates.Update = record { namespace = c.as_str-in-Update.result.now; statements = c.deref-in-Update.result.now } in
    let same : asked ≡ called = λ i. record { namespace = sym c.as_str-in-Update.ensures.value i; statements = sym c.deref-in-Update.ensures.value i } in
    c.update.ensures.has_changes k unchanged
    (subst (λ (u : updates.Update). ChangesNone w (commands.update u)) same (subst (λ (x : Command). ChangesNone w (command_read x)) c.in-Update.is none))

pub returns-in-Insert-clause-reads : goal.returns-in-Insert-clause-reads
returns-in-Insert-clause-reads g c only = absurd (subst (λ (x : Command). OnlyReads (Ok (command_read x))) c.in-Insert.is only)

pub returns-in-Delete-clause-reads : goal.returns-in-Delete-clause-reads
returns-in-Delete-clause-reads g c only = absurd (subst (λ (x : Command). OnlyReads (Ok (command_read x))) c.in-Delete.is only)

pub returns-in-Update-clause-reads : goal.returns-in-Update-clause-reads
returns-in-Update-clause-reads g c only = absurd (subst (λ (x : Command). OnlyReads (Ok (command_read x))) c.in-Update.is only)

pub returns-in-Insert-clause-sure : goal.returns-in-Insert-clause-sure
returns-in-Insert-clause-sure g c none = absurd (subst (λ (x : Command). NeedsNoDisk (Ok (command_read x))) c.in-Insert.is none)

pub returns-in-Find-clause-sure : goal.returns-in-Find-clause-sure
returns-in-Find-clause-sure g c none = absurd (subst (λ (x : Command). NeedsNoDisk (Ok (command_read x))) c.in-Find.is none)

pub returns-in-GetMore-clause-sure : goal.returns-in-GetMore-clause-sure
returns-in-GetMore-clause-sure g c none = absurd (subst (λ (x : Command). NeedsNoDisk (Ok (command_read x))) c.in-GetMore.is none)

pub returns-in-KillCursors-clause-sure : goal.returns-in-KillCursors-clause-sure
returns-in-KillCursors-clause-sure g c none = absurd (subst (λ (x : Command). NeedsNoDisk (Ok (command_read x))) c.in-KillCursors.is none)

pub returns-in-Count-clause-sure : goal.returns-in-Count-clause-sure
returns-in-Count-clause-sure g c none = absurd (subst (λ (x : Command). NeedsNoDisk (Ok (command_read x))) c.in-Count.is none)

pub returns-in-Delete-clause-sure : goal.returns-in-Delete-clause-sure
returns-in-Delete-clause-sure g c none = absurd (subst (λ (x : Command). NeedsNoDisk (Ok (command_read x))) c.in-Delete.is none)

pub returns-in-Update-clause-sure : goal.returns-in-Update-clause-sure
returns-in-Update-clause-sure g c none = absurd (subst (λ (x : Command). NeedsNoDisk (Ok (command_read x))) c.in-Update.is none)

pub returns-in-Aggregate-clause-sure : goal.returns-in-Aggregate-clause-sure
returns-in-Aggregate-clause-sure g c none = absurd (subst (λ (x : Command). NeedsNoDisk (Ok (command_read x))) c.in-Aggregate.is none)

pub returns-in-Insert-clause-still : goal.returns-in-Insert-clause-still
returns-in-Insert-clause-still g c none = absurd (subst (λ (x : Command). NeedsNoDisk (Ok (command_read x))) c.in-Insert.is none)

pub returns-in-Find-clause-still : goal.returns-in-Find-clause-still
returns-in-Find-clause-still g c none = absurd (subst (λ (x : Command). NeedsNoDisk (Ok (command_read x))) c.in-Find.is none)

pub returns-in-GetMore-clause-still : goal.returns-in-GetMore-clause-still
returns-in-GetMore-clause-still g c none = absurd (subst (λ (x : Command). NeedsNoDisk (Ok (command_read x))) c.in-GetMore.is none)

pub returns-in-KillCursors-clause-still : goal.returns-in-KillCursors-clause-still
returns-in-KillCursors-clause-still g c none = absurd (subst (λ (x : Command). NeedsNoDisk (Ok (command_read x))) c.in-KillCursors.is none)

pub returns-in-Count-clause-still : goal.returns-in-Count-clause-still
returns-in-Count-clause-still g c none = absurd (subst (λ (x : Command). NeedsNoDisk (Ok (command_read x))) c.in-Count.is none)

pub returns-in-Delete-clause-still : goal.returns-in-Delete-clause-still
returns-in-Delete-clause-still g c none = absurd (subst (λ (x : Command). NeedsNoDisk (Ok (command_read x))) c.in-Delete.is none)

pub returns-in-Update-clause-still : goal.returns-in-Update-clause-still
returns-in-Update-clause-still g c none = absurd (subst (λ (x : Command). NeedsNoDisk (Ok (command_read x))) c.in-Update.is none)

pub returns-in-Aggregate-clause-still : goal.returns-in-Aggregate-clause-still
returns-in-Aggregate-clause-still g c none = absurd (subst (λ (x : Command). NeedsNoDisk (Ok (command_read x))) c.in-Aggregate.is none)
