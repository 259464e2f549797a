use Rattle.freelist.proofs.SoundBooks.{stays_sound}
use Rattle.freelist.proofs.laws.calls_stay_sound.Goals as goal

pub returns : goal.returns
returns c = stays_sound
