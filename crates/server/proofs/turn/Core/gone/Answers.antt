use Rattle.std.proofs.Common.{ap, sym, ◌∙◌}
use Rattle.trusted_disk.specs.Trusting.{trusted_history}
use Rattle.database_model.specs.World.{World}
use Rattle.server.specs.ServerState.{are_ascending}
use Rattle.server.proofs.Ascending.{drop_ascends}
use Rattle.server.proofs.Images.{still_moment}
use Rattle.server.proofs.turn.Core.gone.Goals as goal

pub returns-clause-sound : goal.returns-clause-sound
returns-clause-sound g c = record {
  engine = c.gone.ensures.sound;
  idle = c.gone.ensures.turn_start ∙ c.requires.sound.idle ∙ sym (ap (λ (w : World). w.collections) c.gone.ensures.world);
  rested = c.gone.ensures.rested c.requires.sound.rested;
  clean = c.gone.ensures.has_changes ∙ c.requires.sound.clean;
  ascending = ap are_ascending c.end_connection.ensures ∙ drop_ascends c.args.self.now.connections.items c.args.id c.requires.sound.ascending;
}

pub returns-clause-moment : goal.returns-clause-moment
returns-clause-moment g c =
    still_moment (trusted_history g.D.Disk.history) c.args.self.now.engine c.gone.new.self c.gone.ensures.disk c.gone.ensures.generation
    c.gone.ensures.takes
