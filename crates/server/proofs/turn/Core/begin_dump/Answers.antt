use Rattle.trusted_disk.specs.Trusting.{trusted_history}
use Rattle.engine.proofs.OnlyReading.{leaves_all}
use Rattle.server.proofs.Reading.{sound_read, state_read}
use Rattle.server.proofs.turn.Core.begin_dump.Goals as goal

pub returns-clause-sound : goal.returns-clause-sound
returns-clause-sound g c =
    sound_read g.D.Disk.history c.args.self.now c.dump.new.self
    (leaves_all (trusted_history g.D.Disk.history) c.args.self.now.engine _ c.dump.ensures.begins.reads) c.requires.sound

pub returns-clause-same : goal.returns-clause-same
returns-clause-same g c =
    state_read g.D.Disk.history c.args.self.now c.dump.new.self
    (leaves_all (trusted_history g.D.Disk.history) c.args.self.now.engine _ c.dump.ensures.begins.reads)
