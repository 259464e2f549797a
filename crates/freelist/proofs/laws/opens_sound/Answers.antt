use Rattle.freelist.proofs.SoundBooks.{opens_sound}
use Rattle.freelist.proofs.laws.opens_sound.Goals as goal

pub returns : goal.returns
returns c = opens_sound
