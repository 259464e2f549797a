-- What a file was opened as is an engine's.
use Rattle.std.proofs.Common.{rules, ◌≡◌, false, List, [], sym, ap, subst}
use Rattle.page.specs.History.{History}
use Rattle.trusted_disk.specs.Trusting.{trusted_history}
use Rattle.trusted_disk.specs.declared.disk.TrustedDisk.{TrustedDisk}
use Rattle.entry_model.specs.State.{Collection}
use Rattle.collections.specs.Standing.{HasState}
use Rattle.tree_model.specs.Keys.{times}
use Rattle.cursors.specs.Held.{Held, cursors_of}
use Rattle.pinned_cursors.specs.Tied.{AreTied}
use Rattle.database_model.specs.Lawful.{AreLawfulCursors, IsLawfulState}
use Rattle.engine.specs.View.{world}
use Rattle.opening.specs.FileOpening.{IsFileOpened}
use Rattle.engine.specs.Opening.{IsEngineOpened}
use Rattle.engine.specs.declared.engine.Engine.{Engine}

pub opened_so : {D : Type 0} (history : D → History) (disk : D) (engine : Engine (TrustedDisk D))
    → IsFileOpened history disk engine.told.value engine.file → engine.cursors ≡ record { list = []; next = 1 } → engine.is_changed ≡ false
    → IsEngineOpened history disk engine
opened_so history disk engine o fresh clean = record {
  sound = record {
    lawful = o.lawful;
    cursors = subst (λ (held : Held). AreLawfulCursors (cursors_of held)) (sym fresh) (search rules);
    before = subst IsLawfulState (sym o.idle) o.lawful;
    quiet = λ e. o.idle;
    file = subst (λ (cs : List Collection). HasState (trusted_history history) engine.file cs (world engine).collections) (sym o.idle) o.file;
    unchanged = λ running e. o.clean;
    tied = subst (λ (held : Held). AreTied engine.is_changed (trusted_history history) engine.file held.list) (sym fresh)
        (record { each = λ running k. tt; pins = λ n. ap (times n) o.pins });
  };
  running = o.running;
  idle = o.idle;
  cursors = (ap cursors_of fresh, ap (λ (held : Held). held.next) fresh);
  clean = clean;
  no_failed_allocations = o.no_failed_allocations;
  no_failed_reads = o.no_failed_reads;
  extends = o.extends;
  trusted = o.trusted;
  holds = o.holds;
  alone = o.alone;
  any_moment = o.any_moment;
}
