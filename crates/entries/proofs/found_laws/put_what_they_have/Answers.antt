use Rattle.entries.proofs.EditLookLemmas.{put_what_they_have}
use Rattle.entries.proofs.found_laws.put_what_they_have.Goals as goal

pub returns : goal.returns
returns c = put_what_they_have
