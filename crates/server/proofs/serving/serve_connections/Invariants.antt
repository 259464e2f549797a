use Rattle.std.proofs.Common.{◌≡◌, [], false, take, drop}
use Rattle.engine.specs.View.{world, turn_start}
use Rattle.page.specs.History.{KeepsWord}
use Rattle.engine.specs.Continuing.{Continues}
use Rattle.engine.specs.Durable.{disk_history, has_changes, is_stopped, IsSound}
use Rattle.server.specs.Causes.{IsCaused}
use Rattle.server.specs.Durable.{engine_moment}
use Rattle.server.specs.Turn.{calls, connections_taken, AllRead}
use Rattle.server.specs.Taking.{Serves}
use Rattle.server.specs.View.{frames_in}
use Rattle.server.proofs.serving.serve_connections.Given as goal

abbrev pub invariant-connections : goal.invariant-connections
invariant-connections g l = record {
  sound : IsSound g.D.Disk.history l.engine;
  continues : Continues g.D.Disk.history l.initial.engine l.engine;
  running : is_stopped l.engine ≡ is_stopped l.initial.engine;
  serves : Serves (KeepsWord (disk_history g.D.Disk.history l.engine))
      (IsCaused (engine_moment g.D.Disk.history l.initial.engine) (engine_moment g.D.Disk.history l.engine))
      (has_changes l.engine ≡ has_changes l.initial.engine) (has_changes l.engine ≡ false)
      (calls (take l.connection-index l.initial.connections)) (world l.initial.engine) (world l.engine) l.all (frames_in l.initial.frames.items)
      (frames_in l.frames.items);
  done : take l.connection-index l.connections ≡ connections_taken (take l.connection-index l.initial.connections);
  left : drop l.connection-index l.connections ≡ drop l.connection-index l.initial.connections;
  turn_start : turn_start l.engine ≡ turn_start l.initial.engine;
  idle : calls l.initial.connections ≡ [] → l.engine ≡ l.initial.engine;
  reads : AllRead (calls l.initial.connections) → has_changes l.engine ≡ has_changes l.initial.engine;
}
