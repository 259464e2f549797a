use Rattle.std.proofs.Common.{◌≡◌, take}
use Rattle.std.proofs.Common.{true}
use Rattle.database_model.specs.World.{are_untouched}
use Rattle.engine.specs.View.{world, turn_start}
use Rattle.engine.specs.Durable.{disk_history, failed_reads_of, has_changes, is_stopped, IsSound}
use Rattle.server.specs.Durable.{engine_moment}
use Rattle.server.specs.Turn.{forget_all}
use Rattle.server.proofs.serving.forget_closed.Given as goal

abbrev pub invariant-closed : goal.invariant-closed
invariant-closed g l = record {
  sound : IsSound g.D.Disk.history l.engine;
  disk : disk_history g.D.Disk.history l.engine ≡ disk_history g.D.Disk.history l.initial.engine;
  running : is_stopped l.engine ≡ is_stopped l.initial.engine;
  moment : engine_moment g.D.Disk.history l.engine ≡ engine_moment g.D.Disk.history l.initial.engine;
  reads : failed_reads_of g.D.Disk.history l.engine ≡ failed_reads_of g.D.Disk.history l.initial.engine;
  world_is : world l.engine ≡ forget_all (world l.initial.engine) (take l.id-index l.closed);
  idle : turn_start l.engine ≡ (world l.engine).collections;
  rested : are_untouched (world l.engine).cursors ≡ true;
  has_changes : has_changes l.engine ≡ has_changes l.initial.engine;
}
