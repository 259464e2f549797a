use Rattle.server.proofs.Reading.{sound_read, state_read}
use Rattle.server.proofs.turn.Core.check.Goals as goal

pub returns-clause-sound : goal.returns-clause-sound
returns-clause-sound g c = sound_read g.D.Disk.history c.args.self.now c.check.new.self c.check.ensures.checks.only c.requires.sound

pub returns-clause-same : goal.returns-clause-same
returns-clause-same g c = state_read g.D.Disk.history c.args.self.now c.check.new.self c.check.ensures.checks.only
