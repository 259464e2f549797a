use Rattle.entry_model.proofs.FoundLawLemmas.{put_twice}
use Rattle.entries.proofs.found_laws.put_twice.Goals as goal

pub returns : goal.returns
returns c = put_twice
