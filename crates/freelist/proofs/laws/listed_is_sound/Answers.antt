use Rattle.freelist.proofs.SoundBooks.{listed_is_sound}
use Rattle.freelist.proofs.laws.listed_is_sound.Goals as goal

pub returns : goal.returns
returns c = listed_is_sound
