use Rattle.freelist.proofs.MadeLists.{stays_sound_taking}
use Rattle.freelist.proofs.laws.made_stays_sound.Goals as goal

pub returns : goal.returns
returns c = λ page_count pages named old new made sound. stays_sound_taking pages old new made.takes sound
