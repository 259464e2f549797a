use Rattle.trusted_disk.proofs.TrustingLemmas.{tells_word}
use Rattle.trusted_disk.proofs.laws.tells_word.Goals as goal

pub returns : goal.returns
returns c = tells_word
