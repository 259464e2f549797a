use Rattle.std.proofs.Common.{rules, sym, ◌∙◌}
use Rattle.engine.specs.View.{world}
use Rattle.engine.proofs.CreatingIndexes.{put_leads, put_nothing, put_stopped, put_written}
use Rattle.engine.proofs.PlannedLemmas.{indexed_planned}
use Rattle.engine.proofs.engine.Engine.put_planned.Goals as goal

pub returns-then-is_stopped-clause-makes : goal.returns-then-is_stopped-clause-makes
returns-then-is_stopped-clause-makes g c =
    put_stopped g.D.Disk.history c.args.namespace.now c.args.indexes.now c.args.self.now c.requires.sound c.args.planned.now c.requires.planned
    (sym c.is_stopped.ensures ∙ c.if-is_stopped.true)

pub returns-then-planned-clause-makes : goal.returns-then-planned-clause-makes
returns-then-planned-clause-makes g c =
    put_nothing g.D.Disk.history c.args.namespace.now c.args.indexes.now c.args.self.now c.requires.sound c.args.planned.now c.requires.planned
    c.if-not-planned.true c.if-planned.true

pub write-requires : goal.write-requires
write-requires g c κs within = (
  search rules,
  (
    search rules,
    (
      c.requires.sound,
      (
        indexed_planned (world c.args.self.now).collections c.args.namespace.now c.args.indexes.now c.requires.sound.lawful c.requires.short c.requires.limits,
        put_leads g.D.Disk.history c.args.namespace.now c.args.indexes.now c.args.self.now c.requires.sound c.args.planned.now c.requires.planned,
      ),
    ),
  ),
)

pub returns-clause-makes : goal.returns-clause-makes
returns-clause-makes g c =
    put_written g.D.Disk.history c.args.namespace.now c.args.indexes.now c.args.self.now c.requires.sound c.args.planned.now c.requires.planned c.write.result
    c.write.new.self c.write.ensures
